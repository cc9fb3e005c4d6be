use mathlib.Core.Path.{◌∙◌}
use Prim.Native.Nat.{◌*◌, ◌≤◌}
use native.Mathlib.Omega.{arith}
use lib.ListN.{length}
use Rattle.machine.specs.Machine.{Given, given}
use Rattle.machine.specs.Held.{Slices, slices}
use Rattle.machine.proofs.Only.{AsLong}
use Rattle.report.proofs.Writing.{wrote_length}
use Rattle.trace.proofs.StepLaws.{next_steps}
use Rattle.trace.proofs.Telling.{telling_room, telling_next, telling_start, telling_end, telling_goes}
use Rattle.trace.proofs.put_moves.Goals as goal

pub loop-at-init : goal.loop-at-init
loop-at-init c =
    let what : Given = given c.args.terms c.args.input.now in
    let held : Slices = slices c.args.stack.now c.args.kinds.now c.args.values.now in
    let cleared : AsLong (slices c.begin-at.new.stack c.begin-at.new.kinds c.begin-at.new.values) held = record { stack = c.begin-at.auto.stack; kinds = c.begin-at.auto.kinds; values = c.begin-at.auto.values } in
    telling_start c.args.table.n c.args.table.rows.now c.args.table.exits.now what held c.begin-at.ensures cleared c.args.shown c.args.out.now c.args.table.good.some

pub put_step-told-requires : goal.put_step-told-requires
put_step-told-requires c =
    let what : Given = given c.args.terms c.args.input.now in
    let held : Slices = slices c.args.stack.now c.args.kinds.now c.args.values.now in
    let cleared : AsLong (slices c.begin-at.new.stack c.begin-at.new.kinds c.begin-at.new.values) held = record { stack = c.begin-at.auto.stack; kinds = c.begin-at.auto.kinds; values = c.begin-at.auto.values } in
    let enough : 512 * c.args.shown ≤ length c.args.out.now = let p = c.requires in omega (arith, p.few, p.roomy) in
    let a = c.loop-at.invariant.along in
    let p = c.requires in
    let below = c.loop-at-test.true in record {
      placed = a.placed;
      judged_in = a.judged;
      steps_bound = (omega (arith, below, p.few), telling_room c.args.table.n c.args.table.rows.now c.args.table.exits.now what _ _ c.args.shown c.args.out.now c.loop-at.invariant enough below);
      has_label = p.labelled c.loop-at.at.region a.placed.inside;
      goes = telling_goes c.args.table.n c.args.table.rows.now c.args.table.exits.now what held c.begin-at.ensures cleared c.args.shown c.args.out.now c.loop-at.invariant below p.within p.made;
    }

pub loop-at-smaller : goal.loop-at-smaller
loop-at-smaller c =
    let what : Given = given c.args.terms c.args.input.now in
    let standing : Slices = slices c.loop-at.stack c.loop-at.kinds c.loop-at.values in
    let left : Slices = slices c.put_step-told.new.stack c.put_step-told.new.kinds c.put_step-told.new.values in
    omega (arith, c.loop-at-test.true, next_steps c.args.table.n c.args.table.rows.now c.args.table.exits.now what standing c.loop-at.at left c.put_step-told.ensures.stepped)

pub loop-at-preserved : goal.loop-at-preserved
loop-at-preserved c =
    let what : Given = given c.args.terms c.args.input.now in
    let standing : Slices = slices c.loop-at.stack c.loop-at.kinds c.loop-at.values in
    let left : Slices = slices c.put_step-told.new.stack c.put_step-told.new.kinds c.put_step-told.new.values in
    let long : AsLong left standing = record { stack = c.put_step-told.auto.stack; kinds = c.put_step-told.auto.kinds; values = c.put_step-told.auto.values } in
    let enough : 512 * c.args.shown ≤ length c.args.out.now = let p = c.requires in omega (arith, p.few, p.roomy) in
    let below = c.loop-at-test.true in
    telling_next c.args.table.n c.args.table.rows.now c.args.table.exits.now what _ _ c.args.shown c.args.out.now c.loop-at.invariant (omega (arith, below, c.requires.within)) below enough
    c.put_step-told.ensures long

pub shape_of-out : goal.shape_of-out
shape_of-out c =
    wrote_length c.loop-at.invariant.wrote (omega (arith, c.loop-at.invariant.few, c.requires.few, c.requires.roomy))

pub shape_of-stack : goal.shape_of-stack
shape_of-stack c =
    let held : Slices = slices c.args.stack.now c.args.kinds.now c.args.values.now in
    let cleared : AsLong (slices c.begin-at.new.stack c.begin-at.new.kinds c.begin-at.new.values) held = record { stack = c.begin-at.auto.stack; kinds = c.begin-at.auto.kinds; values = c.begin-at.auto.values } in
    c.loop-at.invariant.along.long.stack ∙ cleared.stack

pub shape_of-kinds : goal.shape_of-kinds
shape_of-kinds c =
    let held : Slices = slices c.args.stack.now c.args.kinds.now c.args.values.now in
    let cleared : AsLong (slices c.begin-at.new.stack c.begin-at.new.kinds c.begin-at.new.values) held = record { stack = c.begin-at.auto.stack; kinds = c.begin-at.auto.kinds; values = c.begin-at.auto.values } in
    c.loop-at.invariant.along.long.kinds ∙ cleared.kinds

pub shape_of-values : goal.shape_of-values
shape_of-values c =
    let held : Slices = slices c.args.stack.now c.args.kinds.now c.args.values.now in
    let cleared : AsLong (slices c.begin-at.new.stack c.begin-at.new.kinds c.begin-at.new.values) held = record { stack = c.begin-at.auto.stack; kinds = c.begin-at.auto.kinds; values = c.begin-at.auto.values } in
    c.loop-at.invariant.along.long.values ∙ cleared.values

pub returns : goal.returns
returns c =
    let what : Given = given c.args.terms c.args.input.now in
    let held : Slices = slices c.args.stack.now c.args.kinds.now c.args.values.now in
    let cleared : AsLong (slices c.begin-at.new.stack c.begin-at.new.kinds c.begin-at.new.values) held = record { stack = c.begin-at.auto.stack; kinds = c.begin-at.auto.kinds; values = c.begin-at.auto.values } in
    telling_end c.args.table.n c.args.table.rows.now c.args.table.exits.now what held c.begin-at.ensures cleared c.args.shown c.args.out.now c.loop-at.invariant c.loop-at-test.false
