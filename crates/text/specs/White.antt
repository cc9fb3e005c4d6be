-- White space, by the code point, and a text without it at its ends. Assumes nothing.
use Rattle.std.specs.Prelude.{ℕ, Bool, ◌||◌, cond, List, [], ◌∷◌, reverse, eqb}
use Rattle.text.specs.Range.{within}

-- the white space of rule 10.5
unfoldable pub white_space : ℕ → Bool
white_space c =
    within 0x9 0xD c || eqb c 0x20 || eqb c 0x85 || eqb c 0xA0 || eqb c 0x1680 || within 0x2000 0x200A c
    || within 0x2028 0x2029 c || eqb c 0x202F || eqb c 0x205F || eqb c 0x3000

-- the text from its first character that is no white space
unfoldable pub trim_start : List ℕ → List ℕ
trim_start [] = []
trim_start (c ∷ cs) = cond (white_space c) (trim_start cs) (c ∷ cs)

-- the text to its last character that is no white space
abbrev pub trim_end : List ℕ → List ℕ
trim_end cs = reverse (trim_start (reverse cs))

abbrev pub trimmed : List ℕ → List ℕ
trimmed cs = trim_end (trim_start cs)
