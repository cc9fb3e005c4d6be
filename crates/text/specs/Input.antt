-- What an input instruction takes of the input (rules 10.1 to 10.4, 10.8, 16.4). Assumes nothing.
use Rattle.std.specs.Prelude.{Ok, Err, ℕ, zero, suc, ◌+◌, ◌<◌, ◌≡◌, Bool, true, false, not, List, [], ◌∷◌, pos, eqb, length, get_or, take}
use Rattle.base.specs.Edition.{by_edition}
use Rattle.base.specs.declared.edition.Edition.{Edition}
use Rattle.base.specs.declared.edition.Edition.TheVariants.{Page}
use Rattle.text.specs.Line.{line_at, line_end}
use Rattle.text.specs.Utf8.{encodes, Utf8, Valid}
use Rattle.text.specs.White.{trimmed}
use Rattle.text.specs.Number.{parsed}
use Rattle.text.specs.Number.{Number}
use Rattle.text.specs.declared.number.Reason.TheVariants.{Ended}
use Rattle.text.specs.declared.input.Taken.{Taken}
use Rattle.text.specs.declared.input.Taken.TheVariants.{Push, Skip, BadInput}

-- CharIn: the first character of a line (rule 10.2). A line has a character; where there is none the input is at its end
unfoldable pub char_of : List ℕ → Number
char_of [] = Err Ended
char_of (c ∷ cs) = Ok (pos c)

-- what is left of the characters of a line without the white space at its ends, in bytes
abbrev pub remains : List ℕ → List ℕ
remains cs = encodes (trimmed cs)

-- IntIn: the number that a line is without the white space at its ends (rule 10.3), or why it is none (rule 10.8)
unfoldable pub int_of : List ℕ → Number
int_of [] = Err Ended
int_of (c ∷ cs) = parsed (remains (c ∷ cs))

-- what a line gives is pushed, or the step is skipped (rule 10.4); with the place where reading goes on
unfoldable pub push_or_skip : Number → ℕ → Taken
push_or_skip (Ok v) n = Push v n
push_or_skip (Err why) n = Skip n why

-- where reading goes on: from the input, the place of a line and the line's characters
abbrev pub Next : Type 0
Next = List ℕ → ℕ → List ℕ → ℕ

-- IntIn's: after the whole line, or all that is left of it, with its newline (rule 10.1)
abbrev pub whole_line : Next
whole_line s at cs = line_end s at

-- of the place after the line and that after its first character: the first; in edition 2 the second (rule 16.4)
abbrev pub after_char : Edition → ℕ → ℕ → ℕ
after_char e line char = by_edition e line char

-- CharIn's: after the whole line (rule 10.1); in edition 2 after the first character alone, and the rest of the line is left
-- for the next read (rule 16.4)
unfoldable pub char_next : Edition → Next
char_next e s at cs = after_char e (whole_line s at cs) (at + length (encodes (take 1 cs)))

-- An instruction reads f of a line, or of what is left of one, and goes on where `next` says. All that is left of the line is
-- judged, however little of it is taken, and nothing after it: where it is not UTF-8 that is BadInput (rules 11.6, 16.4). The
-- number of that stop is `status_of` of machine's specs/Machine.antt.
pub data Takes (f : List ℕ → Number) (next : Next) (s : List ℕ) (at : ℕ) (r : Taken) : Type 0 where
  reads : (cs : List ℕ) → Utf8 (line_at s at) cs → r ≡ push_or_skip (f cs) (next s at cs) → Takes f next s at r
  bad : (Valid (line_at s at) → ⊥) → r ≡ BadInput → Takes f next s at r

-- a place within a line, or at the end of an input whose last line has no newline: the byte before it is no newline
unfoldable pub within_line : List ℕ → ℕ → Bool
within_line s zero = false
within_line s (suc i) = not (eqb (get_or s i 0) 10)

-- Where reading may stand. A line is judged whole at its first read; so within a line, where only edition 2 comes to stand,
-- what is left of it is UTF-8, and need not be judged again (rule 16.4)
abbrev pub Judged : Edition → List ℕ → ℕ → Type 0
Judged e s at = at < length s → within_line s at ≡ true → (e ≡ Page) × Valid (line_at s at)
