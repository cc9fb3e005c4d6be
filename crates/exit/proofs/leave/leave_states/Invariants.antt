-- `exit::leave::leave_states` meets its contract. The invariant: the passes of the first n states are made. Assumes nothing.
use mathlib.Core.List.{List}
use Prim.Native.Nat.{ℕ}
use Rattle.exit.specs.LeaveTable.{AllKept}
use Rattle.exit.specs.Keeping.{Cells}
use Rattle.exit.proofs.leave.leave_states.Given as goal

pub record Passed (map best₀ best : List ℕ) (rows cols n : ℕ) : Type 0 where
  pub cells : Cells map best rows cols
  pub so_far : AllKept map best₀ best rows cols n

abbrev pub invariant-loop-n : goal.invariant-loop-n
invariant-loop-n l = Passed l.map l.initial.best l.best l.rows l.cols l.n
