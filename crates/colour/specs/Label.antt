-- Region labels, byte for byte as the Rust writes them (rule 3.5), and refusal 12 (rule 12.7). Assumes nothing.
use Rattle.std.specs.Prelude.{◌≡◌, Bool, cond, ◌&&◌, ◌||◌, List, [], ◌∷◌, ◌++◌, ℕ, ◌-◌, ◌/◌, ◌%◌, eqb, ltb, length, get_or, replicate, Result}
use Rattle.base.specs.declared.refusal.Refusal.{Refusal}
use Rattle.base.specs.Numbers.{Numbers, numbers, row, first, unless_refused}
use Rattle.base.specs.Refusal.{answered}
use Rattle.base.specs.Lent.{lent}
use Rattle.base.specs.Text.{ascii, decimal}
use Rattle.colour.specs.Palette.{black, white}

-- `color.rs`: a lightness and a hue
abbrev pub lightness_name : ℕ → List ℕ
lightness_name k = get_or (ascii "Dark" ∷ ascii "Reg" ∷ []) k (ascii "Light")

abbrev pub hue_name : ℕ → List ℕ
hue_name k = get_or (ascii "Red" ∷ ascii "Yellow" ∷ ascii "Green" ∷ ascii "Cyan" ∷ ascii "Blue" ∷ []) k (ascii "Magenta")

unfoldable pub name : ℕ → List ℕ
name c = cond (eqb c black) (ascii "Black") (cond (eqb c white) (ascii "White") (lightness_name (c / 6) ++ hue_name (c % 6)))

unfoldable pub place : ℕ → List ℕ
place n = ascii "_" ++ decimal n

-- the region's first pixel is the picture's
abbrev pub is_entry : ℕ → ℕ → Bool
is_entry r c = eqb r 0 && eqb c 0

-- `Entry`, or the colour's name with the row and the column, as RegRed_0_1 (rule 3.5)
unfoldable pub label_of : ℕ → ℕ → ℕ → List ℕ
label_of colour r c = cond (is_entry r c) (ascii "Entry") (name colour ++ place r ++ place c)

-- the answer's number (rule 12.2), and the label's length
abbrev pub numbered : Result ℕ Refusal → Numbers
numbered = answered (λ n. n ∷ []) (λ r. 0 ∷ [])

-- refusal 12 (rule 12.2): no such colour, a row or a column out of bounds, or too few bytes lent
abbrev pub refused : ℕ → ℕ → ℕ → ℕ → Bool
refused colour r c room = ltb 19 colour || ltb 1023 r || ltb 1023 c || ltb room 22

unfoldable pub answer : ℕ → ℕ → ℕ → ℕ → Numbers
answer colour r c room =
    first (row (refused colour r c room) (numbers 12 (0 ∷ [])) ∷ [])
    (numbers 0 (length (label_of colour r c) ∷ []))

-- the label in its 22 bytes, zeros after it (rule 3.5)
unfoldable pub padded : List ℕ → List ℕ
padded label = label ++ replicate (22 - length label) 0

-- what a call answers and leaves
pub record Outcome (colour r c : ℕ) (before : List ℕ) (a : Result ℕ Refusal) (after : List ℕ) : Type 0 where
  pub answers : numbered a ≡ answer colour r c (length before)
  pub leaves : after ≡ unless_refused (numbered a) (lent (padded (label_of colour r c)) before) before
