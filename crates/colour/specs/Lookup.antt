-- Inner: the tables in which the code looks up a colour and a change of colour. No entry
-- point's contract cites it. Assumes nothing.
use Rattle.std.specs.Prelude.{◌≡◌, cond, List, [], ◌∷◌, map, ℕ, zero, suc, ◌+◌, ◌*◌, ◌%◌, ◌≤◌, eqb, get_or}
use Rattle.colour.specs.Decode.{decode_of}
use Rattle.colour.specs.Palette.{Rgb, rgb, palette, white}

-- three bytes as one number
abbrev pub joined_of : Rgb → ℕ
joined_of (rgb r g b) = 65536 * r + 256 * g + b

-- the palette by number
abbrev pub palette_rows : List ℕ
palette_rows = map joined_of palette

-- the twenty numbers have twenty remainders by it
abbrev pub divisor : ℕ
divisor = 53

-- for each remainder the first row that has it, and row 0 where there is none
abbrev pub first_with : ℕ → List Rgb → ℕ → ℕ
first_with n [] i = 0
first_with n (q ∷ qs) i = cond (eqb (joined_of q % divisor) n) i (first_with n qs (suc i))

abbrev pub likely_from : ℕ → ℕ → List ℕ
likely_from zero n = []
likely_from (suc count) n = first_with n palette 0 ∷ likely_from count (suc n)

abbrev pub likely_rows : List ℕ
likely_rows = likely_from divisor 0

-- a table of the changes of colour: its entry for each ordered pair of colours, numbers up to white's, is the instruction of
-- the rule
pub record DecodesPairs (pairs : List (List ℕ)) : Type 0 where
  pub entry : (from to : ℕ) → from ≤ white → to ≤ white → get_or (get_or pairs from []) to 0 ≡ decode_of from to
