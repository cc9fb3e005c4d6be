-- `exit::leave::leave_state` meets its contract. The invariant: the first i codels have been weighed. Assumes nothing.
use mathlib.Core.List.{List}
use Prim.Native.Nat.{ℕ}
use Rattle.flow.specs.Pointer.{Valid}
use Rattle.flow.specs.declared.PointerState.{PointerState}
use Rattle.exit.specs.Keeping.{Cells, Kept}
use Rattle.exit.proofs.leave.leave_state.Given as goal

pub record Passing (map best₀ best : List ℕ) (rows cols : ℕ) (s : PointerState) (i : ℕ) : Type 0 where
  pub cells : Cells map best rows cols
  pub so_far : Kept map best₀ best rows cols s i
  pub valid : Valid s

abbrev pub invariant-loop-i : goal.invariant-loop-i
invariant-loop-i l = Passing l.map l.initial.best l.best l.rows l.cols l.s l.i
