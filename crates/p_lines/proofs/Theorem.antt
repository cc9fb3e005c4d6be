-- Each of the rules' examples is what the definitions say; there are thirteen, and no question is asked twice.
-- Assumes nothing.
use mathlib.Core.Path.{◌≡◌, refl}
use mathlib.Core.Bool.{Bool, true, false, not, ◌||◌}
use mathlib.Core.List.{List, [], ◌∷◌, ◌++◌, map}
use Prim.Native.Nat.{ℕ, ◌<◌}
use borrow.Author.Tests.{eqb-true}
use lib.Dec.{T, eqb}
use lib.ListN.{length, get_or}
use lib.IntN.{ℤ, pos, negsuc}
use Rattle.base.proofs.Table.{all_two_at}
use Rattle.word.specs.Word.{residue, signed64, wrap, is_zero, quotient, rust_remainder, remainder}
use Rattle.colour.specs.Decode.{decode_of}
use Rattle.flow.specs.Pointer.{attempt_of}
use Rattle.text.specs.Range.{within}
use Rattle.text.specs.Utf8.{scalar}
use Rattle.text.specs.Reading.{same}
use Rattle.text.proofs.ReadingLaws.{same_self}
use Rattle.stack.specs.Instr.{roll, rolled, bad_depth, places, turn}
use Rattle.machine.specs.Output.{char}
use Rattle.p_lines.specs.Table.{Question, order_from, decodes, mod_of, div_of, add_of, roll_of, char_out_of, PLine, emitted, answer, p_lines}

pub p-lines : map (λ (l : PLine). answer l.asks) p_lines ≡ map (λ (l : PLine). l.says) p_lines
unfolding residue signed64 wrap is_zero quotient rust_remainder remainder decode_of attempt_of roll rolled bad_depth places turn char scalar within emitted
p-lines = refl

-- two orders of attempts, three colour changes, four of b and a, two of Roll, two of CharOut
pub thirteen : length p_lines ≡ 13
thirteen = refl

-- ---- each once
-- a question in numbers: its kind, and what it asks of
whole : ℤ → List ℕ
whole (pos n) = 0 ∷ n ∷ []
whole (negsuc n) = 1 ∷ n ∷ []

wholes : List ℤ → List ℕ
wholes [] = []
wholes (z ∷ zs) = whole z ++ wholes zs

words : Question → List ℕ
words (order_from s) = 0 ∷ s ∷ []
words (decodes from to) = 1 ∷ from ∷ to ∷ []
words (mod_of b a) = 2 ∷ wholes (b ∷ a ∷ [])
words (div_of b a) = 3 ∷ wholes (b ∷ a ∷ [])
words (add_of b a) = 4 ∷ wholes (b ∷ a ∷ [])
words (roll_of s) = 5 ∷ wholes s
words (char_out_of v) = 6 ∷ whole v

abbrev pub question : ℕ → Question
question i = get_or (map (λ (l : PLine). l.asks) p_lines) i (order_from 8)

apart : ℕ → ℕ → Bool
apart i j = eqb i j || not (same (words (question i)) (words (question j)))

-- where two lines ask the same they are one line
told : (i j : ℕ) (b : Bool) → eqb i j ≡ b → T (b || not (same (words (question i)) (words (question j)))) → question i ≡ question j → i ≡ j
told i j true e t q = eqb-true i j e
told i j false e t q = absurd (rw (q, same_self) at t)

pub each_once : (i j : ℕ) → i < 13 → j < 13 → question i ≡ question j → i ≡ j
unfolding apart whole wholes words same
each_once i j hi hj = told i j (eqb i j) refl (all_two_at 13 13 apart tt i j hi hj)
