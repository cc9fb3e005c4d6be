-- Two outcomes that a contract allows for one input are equal, answer and cells, for each public function:
--     pop, pair, not, roll    does_only
--     grow, double            grows_only
-- A call leaves the length of a lent slice as it is. Assumes nothing.
use mathlib.Core.Path.{◌≡◌, ◌∙◌, sym, ap, refl}
use mathlib.Core.List.{List}
use Prim.Native.Nat.{ℕ}
use native.Mathlib.Omega.{arith}
use lib.ListN.{length}
use lib.IntN.{ℤ}
use Rattle.stack.specs.Stack.{Does, Overflows, Grows}
use Rattle.std.specs.Prelude.{Option, Some, None}
use Rattle.stack.proofs.Cells.{depth_is}
use Rattle.stack.proofs.Unique.{unique}

module _ (f : List ℤ → List ℤ) (cells : List ℤ) (d : ℕ) (cells' cells'' : List ℤ)
    (n : length cells' ≡ length cells) (m : length cells'' ≡ length cells) where
  pub does_only : (r r' : ℕ) → Does f cells d cells' r → Does f cells d cells'' r' → (r ≡ r') × (cells' ≡ cells'')
  does_only r r' p q = unique cells' cells'' r r' p.lies q.lies (n ∙ sym m) (p.is ∙ sym q.is)

  -- a stack that lies in the cells has room in them
  fits : (c : List ℤ) (r : ℕ) → length c ≡ length cells → Does f cells d c r → (c' : List ℤ) → Overflows f cells d c' → ⊥
  fits c r e p c' o = omega (arith, depth_is p, p.lies.room, o.full)

  pub grows_only : (r r' : Option ℕ) → Grows f cells d cells' r → Grows f cells d cells'' r' → (r ≡ r') × (cells' ≡ cells'')
  unfolding Grows
  grows_only (Some r) (Some r') p q = let e = does_only r r' p q in (ap Some e.0, e.1)
  grows_only (Some r) None p q = absurd (fits cells' r n p cells'' q)
  grows_only None (Some r) p q = absurd (fits cells'' r m q cells' p)
  grows_only None None p q = (refl, p.same ∙ sym q.same)
