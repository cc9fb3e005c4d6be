-- `interpreter::running::run_observed` meets its contract. What is left to run from the start is the run, and what is observed from there is
-- observed from the start. Assumes nothing.
use mathlib.Core.Path.{subst}
use Prim.Native.Nat.{ℕ, ◌-◌, ◌≤◌}
use native.Mathlib.Omega.{arith}
use Rattle.machine.specs.Machine.{Given, given}
use Rattle.machine.specs.Place.{End}
use Rattle.machine.specs.Held.{Slices, slices}
use Rattle.machine.proofs.Only.{AsLong}
use Rattle.interpreter.specs.Resume.{Reaches}
use Rattle.interpreter.proofs.Settled.{begun_placed, begun_judged, begun_run}
use Rattle.interpreter.proofs.Observing.{observed_begun}
use Rattle.interpreter.proofs.running.run_observed.Goals as goal

pub resume_observed-requires : goal.resume_observed-requires
resume_observed-requires c =
    let what : Given = given c.args.terms c.args.input.now in
    let b = c.begin-from in
    let limit = c.args.terms.limit in
    record {
      placed = begun_placed b.ensures c.args.table.n c.args.table.good.some;
      judged_in = begun_judged b.ensures what;
      can_count = λ r h k. omega (arith, c.requires.can_count r h k, at_most limit b.result.steps);
    }
  where
    at_most : (a k : ℕ) → a - k ≤ a
    at_most a k = omega arith

pub returns : goal.returns
returns c =
    let what : Given = given c.args.terms c.args.input.now in
    let held : Slices = slices c.args.stack.now c.args.kinds.now c.args.values.now in
    let long : AsLong (slices c.begin-from.new.stack c.begin-from.new.kinds c.begin-from.new.values) held = record { stack = c.begin-from.auto.stack; kinds = c.begin-from.auto.kinds; values = c.begin-from.auto.values } in
    let r = c.resume_observed in
    let rows = c.args.table.rows.now in
    let exits = c.args.table.exits.now in
    let l' = slices r.new.stack r.new.kinds r.new.values in
    record {
      started = subst (λ (e : End). Reaches c.args.table.n e l' r.result) (begun_run c.begin-from.ensures rows exits what long) r.ensures.resumed;
      observed_all = observed_begun rows exits what c.begin-from.ensures long r.ensures.observed_from;
    }
