use mathlib.Core.Path.{◌≡◌, refl, ap, ◌∙◌}
use lib.ListN.{length}
use Prim.Native.Nat.{◌+◌}
use native.Mathlib.Omega.{arith}
use Rattle.machine.specs.Machine.{Given, given}
use Rattle.machine.specs.Held.{Slices, slices}
use Rattle.machine.proofs.Only.{AsLong}
use Rattle.std.specs.Prelude.{Ok}
use Rattle.interpreter.specs.Resume.{machine_of, Placed}
use Rattle.interpreter.specs.Moving.{After, Stepped}
use Rattle.interpreter.proofs.RunLaws.{ends_halted, ends_limit}
use Rattle.interpreter.proofs.Observing.{taken_length, observes_start, observes_room, observes_next, observes_end}
use Rattle.interpreter.proofs.running.resume_observed.Goals as goal

pub loop-at-init : goal.loop-at-init
loop-at-init c =
    let what : Given = given c.args.terms c.args.input.now in
    let held : Slices = slices c.args.stack.now c.args.kinds.now c.args.values.now in
    observes_start c.args.table.n c.args.table.rows.now c.args.table.exits.now what held c.args.from c.args.visits.now c.args.taken.now c.requires.placed c.requires.judged_in

pub step-requires : goal.step-requires
step-requires c =
    let a = c.loop-at.invariant.along in
    record {
      placed = a.placed;
      judged_in = a.judged;
      steps_bound = omega (arith, c.loop-at-test.true, c.struct_known-in-loop-at-1.given.0);
    }

pub count_visit-requires : goal.count_visit-requires
unfolding After
count_visit-requires c =
    let what : Given = given c.args.terms c.args.input.now in
    let held : Slices = slices c.args.stack.now c.args.kinds.now c.args.values.now in
    let standing : Slices = let l = c.loop-at in slices l.stack l.kinds l.values in
    let left : Slices = slices c.step.new.stack c.step.new.kinds c.step.new.values in
    let gone : Stepped c.args.table.n c.args.table.rows.now c.args.table.exits.now what standing c.loop-at.at left (Ok c.in-Ok.moved) = rw c.in-Ok.is at c.step.ensures in
    let reached : Placed c.args.table.n left c.in-Ok.moved.next × (c.in-Ok.moved.next.steps ≡ c.loop-at.at.steps + 1) = (gone.leaves.0, gone.leaves.1) in
    λ h.
    observes_room c.args.table.n c.args.table.rows.now c.args.table.exits.now what held c.args.from c.args.visits.now c.args.taken.now c.loop-at.invariant c.requires.can_count
    c.loop-at-test.true c.in-Ok.moved.next.region reached.0.inside h

pub loop-at-smaller : goal.loop-at-smaller
unfolding After
loop-at-smaller c =
    let what : Given = given c.args.terms c.args.input.now in
    let standing : Slices = let l = c.loop-at in slices l.stack l.kinds l.values in
    let left : Slices = slices c.step.new.stack c.step.new.kinds c.step.new.values in
    let gone : Stepped c.args.table.n c.args.table.rows.now c.args.table.exits.now what standing c.loop-at.at left (Ok c.in-Ok.moved) = rw c.in-Ok.is at c.step.ensures in
    let reached : Placed c.args.table.n left c.in-Ok.moved.next × (c.in-Ok.moved.next.steps ≡ c.loop-at.at.steps + 1) = (gone.leaves.0, gone.leaves.1) in
    omega (arith, c.loop-at-test.true, reached.1)

pub loop-at-preserved : goal.loop-at-preserved
loop-at-preserved c =
    let what : Given = given c.args.terms c.args.input.now in
    let held : Slices = slices c.args.stack.now c.args.kinds.now c.args.values.now in
    let standing : Slices = let l = c.loop-at in slices l.stack l.kinds l.values in
    let left : Slices = slices c.step.new.stack c.step.new.kinds c.step.new.values in
    let long : AsLong left standing = record { stack = c.step.auto.stack; kinds = c.step.auto.kinds; values = c.step.auto.values } in
    let gone : Stepped c.args.table.n c.args.table.rows.now c.args.table.exits.now what standing c.loop-at.at left (Ok c.in-Ok.moved) = rw c.in-Ok.is at c.step.ensures in
    rw (c.keep_exit.ensures, c.count_visit.ensures)
    (observes_next c.args.table.n c.args.table.rows.now c.args.table.exits.now what held c.args.from c.args.visits.now c.args.taken.now c.loop-at.invariant
    c.loop-at-test.true gone long)

pub shape_of-stack-in-Err : goal.shape_of-stack-in-Err
shape_of-stack-in-Err c =
    let standing : Slices = let l = c.loop-at in slices l.stack l.kinds l.values in
    let left : Slices = slices c.step.new.stack c.step.new.kinds c.step.new.values in
    let long : AsLong left standing = record { stack = c.step.auto.stack; kinds = c.step.auto.kinds; values = c.step.auto.values } in
    long.stack ∙ c.loop-at.invariant.along.long.stack

pub shape_of-kinds-in-Err : goal.shape_of-kinds-in-Err
shape_of-kinds-in-Err c =
    let standing : Slices = let l = c.loop-at in slices l.stack l.kinds l.values in
    let left : Slices = slices c.step.new.stack c.step.new.kinds c.step.new.values in
    let long : AsLong left standing = record { stack = c.step.auto.stack; kinds = c.step.auto.kinds; values = c.step.auto.values } in
    long.kinds ∙ c.loop-at.invariant.along.long.kinds

pub shape_of-values-in-Err : goal.shape_of-values-in-Err
shape_of-values-in-Err c =
    let standing : Slices = let l = c.loop-at in slices l.stack l.kinds l.values in
    let left : Slices = slices c.step.new.stack c.step.new.kinds c.step.new.values in
    let long : AsLong left standing = record { stack = c.step.auto.stack; kinds = c.step.auto.kinds; values = c.step.auto.values } in
    long.values ∙ c.loop-at.invariant.along.long.values

pub shape_of-visits-in-Err : goal.shape_of-visits-in-Err
shape_of-visits-in-Err c = c.loop-at.invariant.long

pub shape_of-taken-in-Err : goal.shape_of-taken-in-Err
shape_of-taken-in-Err c = ap length c.loop-at.invariant.kept ∙ taken_length c.args.taken.now c.loop-at.invariant.passed

pub returns-in-Err : goal.returns-in-Err
unfolding After
returns-in-Err c =
    let what : Given = given c.args.terms c.args.input.now in
    let held : Slices = slices c.args.stack.now c.args.kinds.now c.args.values.now in
    let x = c.step in
    let e = rw c.in-Err.is at x.ensures in
    let q = ends_halted c.args.table.n c.args.table.rows.now c.args.table.exits.now what held c.args.from c.loop-at.invariant.along
    c.in-Err.stop c.loop-at-test.true e in
    record {
      resumed = q;
      observed_from = observes_end c.args.table.n c.args.table.rows.now c.args.table.exits.now what held c.args.from c.args.visits.now c.args.taken.now c.loop-at.invariant
          (ap (λ (y : Slices). machine_of y c.loop-at.at) e.leaves) q;
    }

pub shape_of-stack : goal.shape_of-stack
shape_of-stack c = c.loop-at.invariant.along.long.stack

pub shape_of-kinds : goal.shape_of-kinds
shape_of-kinds c = c.loop-at.invariant.along.long.kinds

pub shape_of-values : goal.shape_of-values
shape_of-values c = c.loop-at.invariant.along.long.values

pub shape_of-visits : goal.shape_of-visits
shape_of-visits c = c.loop-at.invariant.long

pub shape_of-taken : goal.shape_of-taken
shape_of-taken c = ap length c.loop-at.invariant.kept ∙ taken_length c.args.taken.now c.loop-at.invariant.passed

pub returns : goal.returns
returns c =
    let what : Given = given c.args.terms c.args.input.now in
    let held : Slices = slices c.args.stack.now c.args.kinds.now c.args.values.now in
    let q = ends_limit c.args.table.n c.args.table.rows.now c.args.table.exits.now what held c.args.from c.loop-at.invariant.along c.loop-at-test.false in
    record { resumed = q; observed_from = observes_end c.args.table.n c.args.table.rows.now c.args.table.exits.now what held c.args.from c.args.visits.now c.args.taken.now c.loop-at.invariant refl q }
