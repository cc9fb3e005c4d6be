-- Where reading may stand (`Judged`), and that an input instruction leaves it there.
--     within_at                  whether a place that is not the first lies within a line
--     takes_within               within a line that is UTF-8 the character that stands there is what CharIn takes
--     never_bad                  and one stands there
--     judged_start               a run may start
--     int_judged, char_judged    after IntIn, and after CharIn in its edition; and BadInput comes only where a line begins
-- Assumes nothing.
use Prim.Native.Nat.{ℕ, zero, suc, ◌+◌, ◌-◌, ◌<◌}
use mathlib.Core.Path.{◌≡◌, refl, sym, ap, ◌∙◌, subst}
use mathlib.Core.Bool.{Bool, true, false, not, cond, false≢true}
use mathlib.Core.List.{List, [], ◌∷◌, ◌++◌, append-nil, append_assoc}
use native.Mathlib.Omega.{arith}
use borrow.Author.Tests.{eq-eqb, eqb-true}
use lib.Dec.{eqb}
use lib.IntN.{pos}
use lib.ListN.{length, get_or, drop, length-drop, take-append-drop}
use lib.Seq.{get_or-drop}
use Rattle.base.specs.declared.edition.Edition.{Edition}
use Rattle.base.specs.declared.edition.Edition.TheVariants.{Rust, Page}
use Rattle.base.proofs.Clash.{clash}
use Rattle.base.proofs.Tests.{by_size}
use Rattle.text.specs.Line.{line_length, line_at, line_end}
use Rattle.text.specs.Utf8.{encode, encodes, Utf8, Valid, IsChar}
use Rattle.text.specs.Input.{char_of, int_of, push_or_skip, Next, whole_line, char_next, Takes, reads, bad, within_line, Judged}
use Rattle.text.specs.Reading.{take_of}
use Rattle.text.specs.Number.{Number}
use Rattle.std.specs.Prelude.{Ok, Err}
use Rattle.text.specs.declared.input.Taken.{Taken}
use Rattle.text.specs.declared.input.Taken.TheVariants.{Push, Skip, BadInput}
use Rattle.text.proofs.Utf8Laws.{scalars_both, utf8_none, prefix_char}
use Rattle.text.proofs.ValidLaws.{char_at}
use Rattle.text.proofs.LineLaws.{line_none, line_some, line_part}
use Rattle.text.proofs.InputLaws.{some_char}
use Rattle.text.proofs.ReadingLaws.{takes_of}
use Rattle.text.proofs.OneChar.{rest_left, line_taken}

pub within_at : (s : List ℕ) (at : ℕ) → (at ≡ 0 → ⊥) → not (eqb (get_or s (at - 1) 0) 10) ≡ within_line s at
unfolding within_line
within_at s zero h = absurd (h refl)
within_at s (suc i) h = let e : suc i - 1 ≡ i = omega arith in ap (λ (k : ℕ). not (eqb (get_or s k 0) 10)) e

-- a line that begins within the input has a byte
some_line : (s : List ℕ) (at : ℕ) → at < length s → 0 < length (line_at s at)
some_line s at h = subst (λ (l : List ℕ). 0 < length l) (line_part s at (line_end s at) refl) (line_some s at (line_end s at) refl h)

-- ---- within a line that is UTF-8
module _ (s : List ℕ) (at : ℕ) (h : at < length s) where
  -- its first character stands in the input
  stands : (c : ℕ) (ds : List ℕ) → Utf8 (line_at s at) (c ∷ ds) → IsChar s at c (at + length (encode c))
  unfolding encodes
  stands c ds u =
      let t : List ℕ = drop (line_length (drop at s)) (drop at s) in
      char_at s at c (encodes ds ++ t) (scalars_both c ds u.scalars).0
      (sym (take-append-drop (line_length (drop at s)) (drop at s)) ∙ ap (λ (l : List ℕ). l ++ t) u.same ∙ append_assoc (encode c) (encodes ds) t)

  pub takes_within : Valid (line_at s at) → (c n : ℕ) → IsChar s at c n → Takes char_of (char_next Page) s at (Push (pos c) n)
  unfolding encodes char_of push_or_skip char_next
  takes_within (cs, u) c n k = go cs u
    where
      go : (cs : List ℕ) → Utf8 (line_at s at) cs → Takes char_of (char_next Page) s at (Push (pos c) n)
      go [] u = absurd (some_char (line_at s at) [] u (some_line s at h) refl)
      go (d ∷ ds) u =
          let e : c ≡ d = prefix_char c d _ _ (sym k.bytes ∙ (stands d ds u).bytes) in
          reads (d ∷ ds) u (rw (append-nil (encode d), ← e, ← k.next))

  pub never_bad : Valid (line_at s at) → ((c n : ℕ) → IsChar s at c n → ⊥) → ⊥
  never_bad (cs, u) none = go cs u
    where
      go : (cs : List ℕ) → Utf8 (line_at s at) cs → ⊥
      go [] u = some_char (line_at s at) [] u (some_line s at h) refl
      go (d ∷ ds) u = none d (at + length (encode d)) (stands d ds u)

-- ---- where an instruction leaves off
pub judged_start : (e : Edition) (s : List ℕ) → Judged e s 0
unfolding within_line
judged_start e s h w = absurd (false≢true w)

-- a line that does not reach the end of the bytes ends with a newline
newline_last : (l : List ℕ) → line_length l < length l → (i : ℕ) × (line_length l ≡ suc i) × (get_or l i 0 ≡ 10)
unfolding line_length
newline_last [] h = absurd (omega arith)
newline_last (b ∷ bs) h = go (eqb b 10) refl h (newline_last bs)
  where
    Last : ℕ → Type 0
    Last n = (i : ℕ) × (n ≡ suc i) × (get_or (b ∷ bs) i 0 ≡ 10)

    go : (t : Bool) → eqb b 10 ≡ t → cond t 1 (1 + line_length bs) < suc (length bs)
        → (line_length bs < length bs → (i : ℕ) × (line_length bs ≡ suc i) × (get_or bs i 0 ≡ 10)) → Last (cond t 1 (1 + line_length bs))
    go true e k on = (0, refl, eqb-true b 10 e)
    go false e k on = let x = on (omega arith) in (suc x.0, omega (arith, x.1), x.2)

-- so after a line another begins, or the input has ended
judged_line : (e : Edition) (s : List ℕ) (at : ℕ) → Judged e s (line_end s at)
unfolding within_line
judged_line e s at h w = absurd (false≢true (sym begins ∙ w))
  where
    last : (i : ℕ) × (line_length (drop at s) ≡ suc i) × (get_or (drop at s) i 0 ≡ 10)
    last = newline_last (drop at s) (omega (arith, length-drop at s))

    place : line_end s at ≡ suc (at + last.0)
    place = omega (arith, last.1)

    begins : within_line s (line_end s at) ≡ false
    begins = ap (within_line s) place ∙ ap not (eq-eqb (get_or s (at + last.0) 0) 10 (sym (get_or-drop at s last.0 0) ∙ last.2))

-- after a character its line goes on, or is at its end
judged_char : (s : List ℕ) (at c : ℕ) (cs : List ℕ) → Utf8 (line_at s at) (c ∷ cs) → Judged Page s (at + length (encode c))
judged_char s at c [] u = subst (Judged Page s) (sym (line_taken s at c [] u refl)) (judged_line Page s at)
judged_char s at c (d ∷ ds) u = λ h w. (refl, (d ∷ ds, rest_left s at c (d ∷ ds) u (λ e. clash cc)))

-- so CharIn goes on where reading may stand, in each edition
judged_next : (e : Edition) (s : List ℕ) (at : ℕ) (cs : List ℕ) → Utf8 (line_at s at) cs → Judged e s (char_next e s at cs)
unfolding char_next encodes
judged_next Rust s at cs u = judged_line Rust s at
judged_next Page s at [] u = λ h w. absurd (some_char (line_at s at) [] u (some_line s at (omega arith)) refl)
judged_next Page s at (c ∷ cs) u = subst (λ (l : List ℕ). Judged Page s (at + length l)) (sym (append-nil (encode c))) (judged_char s at c cs u)

-- what is taken from a place leaves off where reading may stand; BadInput comes only at the first read of a line
abbrev pub LeavesOff : Edition → List ℕ → ℕ → Taken → Type 0
LeavesOff e s at (Push v n) = Judged e s n
LeavesOff e s at (Skip n why) = Judged e s n
LeavesOff e s at BadInput = within_line s at ≡ false

module _ (e : Edition) (s : List ℕ) (at : ℕ) (j : Judged e s at) where
  first_read : (Valid (line_at s at) → ⊥) → within_line s at ≡ false
  first_read none = go (within_line s at) refl
    where
      go : (t : Bool) → within_line s at ≡ t → t ≡ false
      go false w = refl
      go true w =
          absurd
          (by_size at (length s) (λ h. none (j h w).1)
          (λ h. none ([], utf8_none (line_at s at) (rw (line_none s at h)))))

  either : (x : Number) (n : ℕ) → Judged e s n → LeavesOff e s at (push_or_skip x n)
  unfolding push_or_skip
  either (Ok v) n k = k
  either (Err why) n k = k

  leaves_off : (f : List ℕ → Number) (next : Next) → ((cs : List ℕ) → Utf8 (line_at s at) cs → Judged e s (next s at cs)) → (r : Taken)
      → Takes f next s at r → LeavesOff e s at r
  leaves_off f next k r (reads cs u q) = subst (LeavesOff e s at) (sym q) (either (f cs) (next s at cs) (k cs u))
  leaves_off f next k r (bad n q) = subst (LeavesOff e s at) (sym q) (first_read n)

  pub int_judged : LeavesOff e s at (take_of int_of whole_line s at)
  int_judged = leaves_off int_of whole_line (λ cs u. judged_line e s at) _ (takes_of int_of whole_line s at)

  pub char_judged : LeavesOff e s at (take_of char_of (char_next e) s at)
  char_judged = leaves_off char_of (char_next e) (judged_next e s at) _ (takes_of char_of (char_next e) s at)
