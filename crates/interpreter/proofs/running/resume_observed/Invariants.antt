-- `interpreter::running::resume_observed` meets its contract. The loop's invariant: each cell has grown by how often the exits passed lead
-- to its region, and they are kept. Assumes nothing.
use Prim.Native.Nat.{◌-◌}
use Rattle.machine.specs.Machine.{given}
use Rattle.machine.specs.Held.{slices}
use Rattle.interpreter.proofs.Observing.{Observes}
use Rattle.interpreter.proofs.running.resume_observed.Given as goal

abbrev pub invariant-loop-at : goal.invariant-loop-at
invariant-loop-at l =
    Observes l.table.n l.table.rows.now l.table.exits.now (given l.terms l.input) (slices l.initial.stack l.initial.kinds l.initial.values) l.initial.at l.initial.visits l.initial.taken (slices l.stack l.kinds l.values) l.at l.visits l.taken

abbrev pub decreases-loop-at : goal.decreases-loop-at
decreases-loop-at l = l.terms.limit - l.at.steps
