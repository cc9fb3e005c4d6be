-- The lines of the input (rule 10.1). Assumes nothing.
use Rattle.std.specs.Prelude.{ℕ, ◌+◌, cond, List, [], ◌∷◌, eqb, take, drop}

-- how many bytes the first line has; 10 is the newline
unfoldable pub line_length : List ℕ → ℕ
line_length [] = 0
line_length (b ∷ bs) = cond (eqb b 10) 1 (1 + line_length bs)

-- the line at a place of the input, or what is left of it where the place is within one, and the place after it. At the end of
-- the input the line is empty
abbrev pub line_at : List ℕ → ℕ → List ℕ
line_at s at = take (line_length (drop at s)) (drop at s)

abbrev pub line_end : List ℕ → ℕ → ℕ
line_end s at = at + line_length (drop at s)
