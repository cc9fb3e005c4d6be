-- Laws of ASCII digits, by the byte, and of numerals. Assumes nothing.
use mathlib.Core.Path.{◌≡◌, sym}
use mathlib.Core.Bool.{true, true≢false}
use mathlib.Core.List.{List, [], ◌∷◌}
use Prim.Native.Nat.{ℕ, ◌<◌, ◌≤◌}
use native.Mathlib.Omega.{arith}
use borrow.Author.Tests.{le-leb, leb-true}
use lib.Dec.{leb}
use lib.ListN.{length}
use Rattle.base.specs.Text.{digit, all_digits, numeral}
use Rattle.base.proofs.Tests.{and_both}

pub digit_in : (b : ℕ) → 0x30 ≤ b → b ≤ 0x39 → digit b ≡ true
unfolding digit
digit_in b h k = rw (le-leb 0x30 b h, le-leb b 0x39 k)

pub digit_range : (b : ℕ) → digit b ≡ true → (0x30 ≤ b) × (b ≤ 0x39)
unfolding digit
digit_range b e =
    let d = and_both (leb 0x30 b) (leb b 0x39) e in
    (leb-true 0x30 b d.0, leb-true b 0x39 d.1)

pub is_numeral : (l : List ℕ) → 0 < length l → all_digits l ≡ true → numeral l ≡ true
unfolding numeral
is_numeral [] h e = absurd (omega arith)
is_numeral (b ∷ l) h e = e

pub numeral_some : (l : List ℕ) → numeral l ≡ true → 0 < length l
unfolding numeral
numeral_some [] e = absurd (true≢false (sym e))
numeral_some (b ∷ l) e = omega arith

pub numeral_all : (l : List ℕ) → numeral l ≡ true → all_digits l ≡ true
unfolding numeral
numeral_all [] e = absurd (true≢false (sym e))
numeral_all (b ∷ l) e = e
