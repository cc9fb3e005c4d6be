-- Laws of the bytes of a header: a digit, a white space byte and `#` are told apart. Assumes nothing.
use mathlib.Core.Path.{◌≡◌, ◌∙◌, sym, refl}
use mathlib.Core.Bool.{Bool, true, false, true≢false}
use Prim.Native.Nat.{ℕ}
use native.Mathlib.Omega.{arith}
use borrow.Author.Tests.{eqb-true, ne_eqb}
use lib.Dec.{eqb}
use Rattle.base.proofs.Tests.{neither}
use Rattle.base.proofs.Digits.{digit_range}
use Rattle.base.specs.Text.{digit}
use Rattle.netpbm.specs.File.{header_white}
use Rattle.netpbm.specs.Scan.{goes_on}

-- a digit ends a gap
pub digit_ends : (b : ℕ) → digit b ≡ true → goes_on false b ≡ false
unfolding goes_on header_white
digit_ends b e =
    let d = digit_range b e in
    rw (
      ne_eqb b 32 (λ k. omega arith),
      ne_eqb b 9 (λ k. omega arith),
      ne_eqb b 13 (λ k. omega arith),
      ne_eqb b 10 (λ k. omega arith),
      ne_eqb b 35 (λ k. omega arith),
    )

-- a white space byte ends a number
pub white_ends : (b : ℕ) → header_white b ≡ true → digit b ≡ false
unfolding goes_on
white_ends b e = go (digit b) refl
  where
    go : (d : Bool) → digit b ≡ d → digit b ≡ false
    go false k = k
    go true k = absurd (true≢false (sym e ∙ (neither (header_white b) (eqb b 35) (digit_ends b k)).0))

-- and begins no comment
pub white_plain : (b : ℕ) → header_white b ≡ true → eqb b 35 ≡ false
unfolding header_white
white_plain b e = go (eqb b 35) refl
  where
    go : (d : Bool) → eqb b 35 ≡ d → eqb b 35 ≡ false
    go false k = k
    go true k = absurd (true≢false (sym e ∙ rw (eqb-true b 35 k)))
