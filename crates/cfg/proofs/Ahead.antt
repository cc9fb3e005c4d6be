-- The codel one step along dp: by row and column (`ahead_of`, which slides and attempts walk by) and by index (`Toward`,
-- which joins the codels of a region) it is one. Assumes nothing.
use mathlib.Core.Path.{◌≡◌, sym}
use mathlib.Core.Logic.{◌↔◌}
use Prim.Native.Nat.{ℕ, zero, suc, ◌+◌, ◌-◌, ◌*◌, ◌/◌, ◌%◌, ◌<◌}
use native.Mathlib.Omega.{arith}
use native.Mathlib.Nat.{div-lt_iff_lt-mul, mod-lt}
use borrow.Author.Tests.{lt-ltb, ltb-true}
use lib.Dec.{ltb}
use Rattle.std.specs.Prelude.{Some, Option}
use Rattle.flow.specs.Neighbour.{ahead_of}
use Rattle.flow.proofs.NeighbourLaws.{ahead_only}
use Rattle.region.specs.Grid.{Toward}

there : {r c r' c' : ℕ} → r ≡ r' → c ≡ c' → ◌≡◌ {A = Option (ℕ × ℕ)} (Some (r, c)) (Some (r', c'))
there a b = λ i. Some (a i, b i)

pub ahead_toward : (rows cols i j dp : ℕ) → 0 < cols → i < rows * cols → j < rows * cols → dp < 4
    → (ahead_of rows cols (i / cols) (i % cols) dp ≡ Some (j / cols, j % cols)) ↔ Toward cols dp i j
unfolding ahead_of Toward
ahead_toward rows cols i j zero pos h k d = (
  λ e. let x = ahead_only (ltb (i % cols + 1) cols) (i / cols) (i % cols + 1) (j / cols) (j % cols) e in (sym x.1, sym x.2),
  λ t. rw (lt-ltb (i % cols + 1) cols (omega (arith, mod-lt j pos, t.1))) (there (sym t.0) (sym t.1)),
)
ahead_toward rows cols i j (suc zero) pos h k d = (
  λ e. let x = ahead_only (ltb (i / cols + 1) rows) (i / cols + 1) (i % cols) (j / cols) (j % cols) e in (sym x.1, sym x.2),
  λ t. rw (lt-ltb (i / cols + 1) rows (omega (arith, (div-lt_iff_lt-mul pos).1 k, t.0))) (there (sym t.0) (sym t.1)),
)
ahead_toward rows cols i j (suc (suc zero)) pos h k d = (
  λ e. let x = ahead_only (ltb 0 (i % cols)) (i / cols) (i % cols - 1) (j / cols) (j % cols) e in (sym x.1, omega (arith, ltb-true 0 (i % cols) x.0, x.2)),
  λ t. rw (lt-ltb 0 (i % cols) (omega (arith, t.1))) (there (sym t.0) (omega (arith, t.1))),
)
ahead_toward rows cols i j (suc (suc (suc zero))) pos h k d = (
  λ e. let x = ahead_only (ltb 0 (i / cols)) (i / cols - 1) (i % cols) (j / cols) (j % cols) e in (omega (arith, ltb-true 0 (i / cols) x.0, x.1), sym x.2),
  λ t. rw (lt-ltb 0 (i / cols) (omega (arith, t.0))) (there (omega (arith, t.0)) (sym t.1)),
)
ahead_toward rows cols i j (suc (suc (suc (suc n)))) pos h k d = absurd (no d)
  where
    no : suc (suc (suc (suc n))) < 4 → ⊥
    no d = omega arith
