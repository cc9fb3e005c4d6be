-- What CharIn takes in edition 2, of a line or of what is left of one (rule 16.4), where its characters are c ∷ cs.
--     one_char      c is pushed, and reading goes on after the bytes of c
--     rest_left     the next read sees the characters cs of the same line, where there are any
--     line_taken    where there are none, reading goes on after the line
-- Assumes nothing.
use Prim.Native.Nat.{ℕ, ◌+◌, ◌<◌}
use mathlib.Core.Path.{◌≡◌, refl, sym, ap, ◌∙◌}
use mathlib.Core.List.{List, [], ◌∷◌, append-nil}
use native.Mathlib.Omega.{arith}
use lib.IntN.{pos}
use lib.ListN.{length, take, drop, length-append}
use lib.Seq.{drop-drop, drop-append_seam}
use Rattle.base.specs.declared.edition.Edition.TheVariants.{Page}
use Rattle.text.specs.Line.{line_length, line_at, line_end}
use Rattle.text.specs.Utf8.{encode, encodes, Utf8}
use Rattle.text.specs.Input.{char_of, push_or_skip, char_next, Takes, reads}
use Rattle.text.specs.declared.input.Taken.{Taken}
use Rattle.text.specs.declared.input.Taken.TheVariants.{Push}
use Rattle.text.proofs.Utf8Laws.{scalars_both, encode_some}
use Rattle.text.proofs.LineLaws.{line_size, line_rest}
use Rattle.text.proofs.Only.{takes_only}

-- a text that has a character has a byte
some_bytes : (cs : List ℕ) → (cs ≡ [] → ⊥) → 0 < length (encodes cs)
unfolding encodes
some_bytes [] h = absurd (h refl)
some_bytes (c ∷ cs) h = omega (arith, encode_some c, length-append (encode c) (encodes cs))

module _ (s : List ℕ) (at c : ℕ) (cs : List ℕ) (u : Utf8 (line_at s at) (c ∷ cs)) where
  pub one_char : (r : Taken) → Takes char_of (char_next Page) s at r → r ≡ Push (pos c) (at + length (encode c))
  unfolding encodes char_of push_or_skip char_next
  one_char r p = takes_only char_of (char_next Page) s at r (Push (pos c) (at + length (encode c))) p (reads (c ∷ cs) u (rw (append-nil (encode c))))

  pub rest_left : (cs ≡ [] → ⊥) → Utf8 (line_at s (at + length (encode c))) cs
  unfolding encodes
  rest_left h =
      let n : length (encode c) < line_length (drop at s) =
      omega (arith, some_bytes cs h, line_size s at, ap length u.same, length-append (encode c) (encodes cs)) in
      record {
        scalars = (scalars_both c cs u.scalars).1;
        same =
            ap (λ (l : List ℕ). take (line_length l) l) (sym (drop-drop (length (encode c)) at s))
            ∙ line_rest (length (encode c)) (drop at s) n
            ∙ ap (drop (length (encode c))) u.same
            ∙ drop-append_seam (encode c) (encodes cs);
      }

  pub line_taken : cs ≡ [] → at + length (encode c) ≡ line_end s at
  unfolding encodes
  line_taken e = omega (arith, line_size s at, ap length u.same, length-append (encode c) (encodes cs), ap (λ (l : List ℕ). length (encodes l)) e)
