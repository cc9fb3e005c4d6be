-- A number as IntIn reads it, and what is none: its form comes first, its value second (rules 10.3, 10.8). Assumes nothing.
use Rattle.std.specs.Prelude.{Result, Ok, Err, ℕ, ◌^◌, Bool, cond, List, [], ◌∷◌, ltb, eqb, ℤ, pos, negsuc, neg_ℤ}
use Rattle.base.specs.Text.{numeral, value_after}
use Rattle.text.specs.declared.number.Reason.{Reason}
use Rattle.text.specs.declared.number.Reason.TheVariants.{Blank, NotNumber, OutOfRange}

-- in range: from -2^63 to 2^63 - 1 (rule 9.10); `negsuc n` is -(n + 1)
unfoldable pub in_range : ℤ → Bool
in_range (pos n) = ltb n (2 ^ 63)
in_range (negsuc n) = ltb n (2 ^ 63)

-- a number, or why there is none
abbrev pub Number : Type 0
Number = Result ℤ Reason

-- a number that is said: it is given where it is in range
unfoldable pub ranged : ℤ → Number
ranged z = cond (in_range z) (Ok z) (Err OutOfRange)

-- what a sign makes of the bytes after it: a number of digits, at least one; anything else has not the form
unfoldable pub signed : (ℕ → ℤ) → List ℕ → Number
signed sign bs = cond (numeral bs) (ranged (sign (value_after 0 bs))) (Err NotNumber)

-- -n
abbrev pub opposite : ℕ → ℤ
opposite n = neg_ℤ (pos n)

abbrev pub plus : List ℕ → Number
plus bs = signed pos bs

abbrev pub minus : List ℕ → Number
minus bs = signed opposite bs

-- a text without white space at its ends. A sign may stand first: 0x2D is `-`, 0x2B is `+`
unfoldable pub parsed : List ℕ → Number
parsed [] = Err Blank
parsed (b ∷ bs) = cond (eqb b 0x2D) (minus bs) (cond (eqb b 0x2B) (plus bs) (plus (b ∷ bs)))
