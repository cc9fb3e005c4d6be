-- The same as functions that compute: the characters that bytes read as, and what an input instruction takes.
-- proofs/ReadingLaws.antt ties them to `Utf8` and `Takes`, which the contracts cite. Assumes nothing.
use Rattle.std.specs.Prelude.{ℕ, zero, suc, ◌+◌, ◌-◌, ◌*◌, Bool, true, false, ◌&&◌, cond, List, [], ◌∷◌, ltb, eqb, length, get_or, drop}
use Rattle.text.specs.Line.{line_at}
use Rattle.text.specs.Utf8.{scalars, encodes}
use Rattle.text.specs.Input.{push_or_skip, Next}
use Rattle.text.specs.Number.{Number}
use Rattle.text.specs.declared.input.Taken.{Taken}
use Rattle.text.specs.declared.input.Taken.TheVariants.{BadInput}

-- the code point that bytes begin with, if they begin with one, and the bytes after it
unfoldable pub back : List ℕ → ℕ
back s =
    cond (ltb (get_or s 0 0) 0x80) (get_or s 0 0)
    (cond (ltb (get_or s 0 0) 0xE0) ((get_or s 0 0 - 0xC0) * 64 + (get_or s 1 0 - 0x80))
    (cond (ltb (get_or s 0 0) 0xF0) ((get_or s 0 0 - 0xE0) * 4096 + (get_or s 1 0 - 0x80) * 64 + (get_or s 2 0 - 0x80))
    ((get_or s 0 0 - 0xF0) * 262144 + (get_or s 1 0 - 0x80) * 4096 + (get_or s 2 0 - 0x80) * 64 + (get_or s 3 0 - 0x80))))

unfoldable pub rest : List ℕ → List ℕ
rest s =
    cond (ltb (get_or s 0 0) 0x80) (drop 1 s)
    (cond (ltb (get_or s 0 0) 0xE0) (drop 2 s)
    (cond (ltb (get_or s 0 0) 0xF0) (drop 3 s) (drop 4 s)))

unfoldable pub chars : ℕ → List ℕ → List ℕ
chars zero s = []
chars (suc n) [] = []
chars (suc n) (b ∷ bs) = back (b ∷ bs) ∷ chars n (rest (b ∷ bs))

-- the one candidate for the characters of the bytes
abbrev pub reading : List ℕ → List ℕ
reading s = chars (length s) s

unfoldable pub same : List ℕ → List ℕ → Bool
same [] [] = true
same [] (b ∷ bs) = false
same (a ∷ l) [] = false
same (a ∷ l) (b ∷ bs) = eqb a b && same l bs

-- the candidate is made of scalars and has those bytes
unfoldable pub valid : List ℕ → Bool
valid s = scalars (reading s) && same s (encodes (reading s))

-- what an instruction takes that reads f of a line and goes on where `next` says
unfoldable pub take_of : (List ℕ → Number) → Next → List ℕ → ℕ → Taken
take_of f next s at =
    cond (valid (line_at s at)) (push_or_skip (f (reading (line_at s at))) (next s at (reading (line_at s at)))) BadInput
