-- The bounds of a picture's sides and codel width. Assumes nothing.
use Rattle.std.specs.Prelude.{ℕ, Bool, ◌||◌, eqb, ltb}

-- a height, a width or a codel width out of bounds (rule 2.1): refusals 1 and 6 (rule 12.2)
abbrev pub wrong_side : ℕ → Bool
wrong_side n = eqb n 0 || ltb 1024 n
