-- What a line that is UTF-8 is to IntIn, by what it means: a number, or one of the four reasons to skip it (rules 10.3, 10.8).
-- proofs/Meaning.antt has that each is one of the five, and no two, and that it is the one that `int_of` tells.
-- Assumes nothing.
use Rattle.std.specs.Prelude.{Ok, Err, ℕ, ◌≡◌, true, false, List, [], ◌∷◌, ℤ, pos}
use Rattle.base.specs.Text.{numeral, value_after}
use Rattle.text.specs.Number.{in_range, opposite}
use Rattle.text.specs.Input.{remains}
use Rattle.text.specs.Number.{Number}
use Rattle.text.specs.declared.number.Reason.TheVariants.{Ended, Blank, NotNumber, OutOfRange}

-- a text has the form of a number, and says the number z: digits, at least one, after a sign or none
pub data Says : List ℕ → ℤ → Type 0 where
  bare : (digits : List ℕ) → numeral digits ≡ true → Says digits (pos (value_after 0 digits))
  plus : (digits : List ℕ) → numeral digits ≡ true → Says (0x2B ∷ digits) (pos (value_after 0 digits))
  minus : (digits : List ℕ) → numeral digits ≡ true → Says (0x2D ∷ digits) (opposite (value_after 0 digits))

-- the line of the characters cs. Only at the end of the input has it none
unfoldable pub Means : List ℕ → Number → Type 0
Means cs (Ok z) = Says (remains cs) z × (in_range z ≡ true)
Means cs (Err Ended) = cs ≡ []
Means cs (Err Blank) = (cs ≡ [] → ⊥) × (remains cs ≡ [])
Means cs (Err NotNumber) = (remains cs ≡ [] → ⊥) × ((z : ℤ) → Says (remains cs) z → ⊥)
Means cs (Err OutOfRange) = (z : ℤ) × Says (remains cs) z × (in_range z ≡ false)
