-- `trace::put_moves` meets its contract. The loop's invariant: the run is on its way, and each of its steps has its line. Assumes nothing.
use Prim.Native.Nat.{◌-◌}
use Rattle.machine.specs.Machine.{given}
use Rattle.machine.specs.Held.{slices}
use Rattle.trace.proofs.Telling.{Telling}
use Rattle.trace.proofs.put_moves.Given as goal

abbrev pub invariant-loop-at : goal.invariant-loop-at
invariant-loop-at l =
    Telling l.table.n l.table.rows.now l.table.exits.now (given l.terms l.input) (slices l.initial.stack l.initial.kinds l.initial.values) l.initial.at l.shown l.initial.out (slices l.stack l.kinds l.values) l.at l.end l.out

abbrev pub decreases-loop-at : goal.decreases-loop-at
decreases-loop-at l = l.shown - l.at.steps
