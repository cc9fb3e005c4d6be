-- Laws of the codel ahead: it is in the grid, and how many steps there are to the edge. Assumes nothing.
use mathlib.Core.Path.{◌≡◌, ap, refl}
use mathlib.Core.Bool.{Bool, true, false}
use Prim.Native.Nat.{ℕ, zero, suc, ◌+◌, ◌-◌, ◌<◌}
use native.Mathlib.Omega.{arith}
use borrow.Author.Tests.{ltb-true}
use lib.Dec.{ltb}
use Rattle.std.specs.Prelude.{Some}
use Rattle.base.proofs.Clash.{clash}
use Rattle.flow.specs.Neighbour.{or_outside, ahead_of}

-- up is what is none of the other three
pub ahead_up : (rows cols r c d : ℕ) → (d ≡ 0 → ⊥) → (d ≡ 1 → ⊥) → (d ≡ 2 → ⊥) → ahead_of rows cols r c d ≡ or_outside (ltb 0 r) (r - 1) c
unfolding ahead_of
ahead_up rows cols r c zero h i j = absurd (h refl)
ahead_up rows cols r c (suc zero) h i j = absurd (i refl)
ahead_up rows cols r c (suc (suc zero)) h i j = absurd (j refl)
ahead_up rows cols r c (suc (suc (suc d))) h i j = refl

-- a codel that is ahead passed the test, and row and column are its own
pub ahead_only : (t : Bool) (r c r' c' : ℕ) → or_outside t r c ≡ Some (r', c') → (t ≡ true) × (r ≡ r') × (c ≡ c')
ahead_only true r c r' c' e = let p : (r, c) ≡ (r', c') = cc in (refl, ap (λ (x : ℕ × ℕ). x.0) p, ap (λ (x : ℕ × ℕ). x.1) p)
ahead_only false r c r' c' e = clash cc

-- the codel ahead of one in the grid is in the grid
pub inside : (rows cols r c d r' c' : ℕ) → r < rows → c < cols → ahead_of rows cols r c d ≡ Some (r', c') → (r' < rows) × (c' < cols)
unfolding ahead_of
inside rows cols r c zero r' c' h k e =
    let x = ahead_only (ltb (c + 1) cols) r (c + 1) r' c' e in
    omega (arith, x.1, x.2, ltb-true (c + 1) cols x.0)
inside rows cols r c (suc zero) r' c' h k e =
    let x = ahead_only (ltb (r + 1) rows) (r + 1) c r' c' e in
    omega (arith, x.1, x.2, ltb-true (r + 1) rows x.0)
inside rows cols r c (suc (suc zero)) r' c' h k e =
    let x = ahead_only (ltb 0 c) r (c - 1) r' c' e in
    omega (arith, x.1, x.2)
inside rows cols r c (suc (suc (suc d))) r' c' h k e =
    let x = ahead_only (ltb 0 r) (r - 1) c r' c' e in
    omega (arith, x.1, x.2)

-- how many steps there are to the edge along dp
abbrev pub room : ℕ → ℕ → ℕ → ℕ → ℕ → ℕ
room rows cols r c zero = cols - 1 - c
room rows cols r c (suc zero) = rows - 1 - r
room rows cols r c (suc (suc zero)) = c
room rows cols r c (suc (suc (suc d))) = r

-- it is less than the grid's two sides together, and a step makes it less
pub room_small : (rows cols r c d : ℕ) → r < rows → c < cols → room rows cols r c d < rows + cols
room_small rows cols r c zero h k = omega arith
room_small rows cols r c (suc zero) h k = omega arith
room_small rows cols r c (suc (suc zero)) h k = omega arith
room_small rows cols r c (suc (suc (suc d))) h k = omega arith

pub room_less : (rows cols r c d r' c' : ℕ) → r < rows → c < cols → ahead_of rows cols r c d ≡ Some (r', c') → room rows cols r' c' d < room rows cols r c d
unfolding ahead_of
room_less rows cols r c zero r' c' h k e =
    let x = ahead_only (ltb (c + 1) cols) r (c + 1) r' c' e in
    omega (arith, x.2, ltb-true (c + 1) cols x.0)
room_less rows cols r c (suc zero) r' c' h k e =
    let x = ahead_only (ltb (r + 1) rows) (r + 1) c r' c' e in
    omega (arith, x.1, ltb-true (r + 1) rows x.0)
room_less rows cols r c (suc (suc zero)) r' c' h k e =
    let x = ahead_only (ltb 0 c) r (c - 1) r' c' e in
    omega (arith, x.2, ltb-true 0 c x.0)
room_less rows cols r c (suc (suc (suc d))) r' c' h k e =
    let x = ahead_only (ltb 0 r) (r - 1) c r' c' e in
    omega (arith, x.1, ltb-true 0 r x.0)
