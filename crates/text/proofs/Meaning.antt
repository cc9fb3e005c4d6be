-- A line that is UTF-8 is one of five things to IntIn, a number or one of the four reasons to skip it (rules 10.3, 10.8), and
-- `int_of` tells which.
--     means                each line is the one of the five that `int_of` tells
--     means_only           no line is two of them
--     says_only            a text says one number
--     nothing_left         a line has no characters exactly where no byte is left
--     skip_means           where a line is skipped for a reason, it is one that means it
-- Assumes nothing.
use Prim.Native.Nat.{ℕ, ◌≤◌}
use mathlib.Core.Path.{◌≡◌, refl, sym, ap, ◌∙◌, subst}
use mathlib.Core.Bool.{Bool, true, false, cond, true≢false, false≢true}
use mathlib.Core.Logic.{◌↔◌}
use mathlib.Core.List.{List, [], ◌∷◌}
use native.Mathlib.Omega.{arith}
use borrow.Author.Tests.{leb-true, eqb-true, ne_eqb}
use lib.Dec.{leb, eqb}
use lib.IntN.{ℤ, pos}
use lib.ListN.{length}
use Rattle.base.specs.Text.{digit, all_digits, numeral, value_after}
use Rattle.base.proofs.Tests.{by_size, and_both}
use Rattle.base.proofs.Clash.{clash}
use Rattle.text.specs.Line.{line_at, line_end}
use Rattle.text.specs.Utf8.{encodes, Utf8}
use Rattle.text.specs.White.{trim_start}
use Rattle.text.specs.Number.{in_range, ranged, signed, opposite, parsed}
use Rattle.text.specs.Input.{remains, int_of, push_or_skip, whole_line, Takes, reads, bad}
use Rattle.text.specs.Reading.{take_of}
use Rattle.text.specs.Means.{Says, bare, plus, minus, Means}
use Rattle.text.specs.Number.{Number}
use Rattle.std.specs.Prelude.{Ok, Err}
use Rattle.text.specs.declared.number.Reason.{Reason}
use Rattle.text.specs.declared.number.Reason.TheVariants.{Ended, Blank, NotNumber, OutOfRange}
use Rattle.text.specs.declared.input.Taken.TheVariants.{Skip}
use Rattle.text.proofs.Utf8Laws.{utf8_none, utf8_unique}
use Rattle.text.proofs.LineLaws.{line_none, line_some, line_part}
use Rattle.text.proofs.NumberLaws.{no_form, in_form, in-range, out_of_range}
use Rattle.text.proofs.InputLaws.{some_char}
use Rattle.text.proofs.ReadingLaws.{takes_of}

-- ---- a text by its first byte: its sign, its digits, and the number that they make
sign_of : List ℕ → ℕ → ℤ
sign_of [] n = pos n
sign_of (b ∷ bs) n = cond (eqb b 0x2D) (opposite n) (pos n)

digits_of : List ℕ → List ℕ
digits_of [] = []
digits_of (b ∷ bs) = cond (eqb b 0x2D) bs (cond (eqb b 0x2B) bs (b ∷ bs))

number : List ℕ → ℤ
number l = sign_of l (value_after 0 (digits_of l))

-- digits begin with no sign
first_digit : (b : ℕ) (bs : List ℕ) → numeral (b ∷ bs) ≡ true → 0x30 ≤ b
unfolding numeral all_digits digit
first_digit b bs e = leb-true 0x30 b (and_both (leb 0x30 b) (leb b 0x39) (and_both (digit b) (all_digits bs) e).0).0

bare_is : (l : List ℕ) → numeral l ≡ true → (digits_of l ≡ l) × (number l ≡ pos (value_after 0 l))
unfolding numeral digits_of sign_of number
bare_is [] e = absurd (false≢true e)
bare_is (b ∷ bs) e =
    let h = first_digit b bs e in
    let m = ne_eqb b 0x2D (λ q. omega arith) in
    let p = ne_eqb b 0x2B (λ q. omega arith) in
    (rw (m, p), rw (m, p))

says_is : (l : List ℕ) (z : ℤ) → Says l z → (numeral (digits_of l) ≡ true) × (z ≡ number l)
unfolding digits_of sign_of number
says_is l z (bare digits e) = let p = bare_is digits e in (rw p.0 e, sym p.1)
says_is l z (plus digits e) = (e, refl)
says_is l z (minus digits e) = (e, refl)

says_of : (l : List ℕ) → numeral (digits_of l) ≡ true → Says l (number l)
unfolding numeral digits_of sign_of number
says_of [] n = absurd (false≢true n)
says_of (b ∷ bs) n = go (eqb b 0x2D) (eqb b 0x2B) refl refl n
  where
    digits : Bool → Bool → List ℕ
    digits m p = cond m bs (cond p bs (b ∷ bs))

    go : (m p : Bool) → eqb b 0x2D ≡ m → eqb b 0x2B ≡ p → numeral (digits m p) ≡ true
        → Says (b ∷ bs) (cond m (opposite (value_after 0 (digits m p))) (pos (value_after 0 (digits m p))))
    go true p e f n = rw (eqb-true b 0x2D e) (minus bs n)
    go false true e f n = rw (eqb-true b 0x2B f) (plus bs n)
    go false false e f n = bare (b ∷ bs) n

pub says_only : (bs : List ℕ) (y z : ℤ) → Says bs y → Says bs z → y ≡ z
says_only bs y z p q = (says_is bs y p).1 ∙ sym (says_is bs z q).1

-- ---- what `parsed` makes of a text that is not empty
by_parts : (l : List ℕ) → (l ≡ [] → ⊥) → parsed l ≡ signed (sign_of l) (digits_of l)
unfolding parsed digits_of sign_of
by_parts [] h = absurd (h refl)
by_parts (b ∷ bs) h = go (eqb b 0x2D) (eqb b 0x2B)
  where
    go : (m p : Bool)
        → cond m (signed opposite bs) (cond p (signed pos bs) (signed pos (b ∷ bs)))
        ≡ signed (λ n. cond m (opposite n) (pos n)) (cond m bs (cond p bs (b ∷ bs)))
    go true p = refl
    go false true = refl
    go false false = refl

says_some : (l : List ℕ) (z : ℤ) → Says l z → l ≡ [] → ⊥
unfolding numeral digits_of
says_some l z s e = false≢true (rw e at (says_is l z s).0)

says_parsed : (l : List ℕ) (z : ℤ) → Says l z → parsed l ≡ ranged z
unfolding number
says_parsed l z s =
    let p = says_is l z s in
    by_parts l (says_some l z s) ∙ in_form (sign_of l) (digits_of l) p.0 ∙ ap ranged (sym p.1)

none_parsed : (l : List ℕ) → (l ≡ [] → ⊥) → ((z : ℤ) → Says l z → ⊥) → parsed l ≡ Err NotNumber
none_parsed l h f = by_parts l h ∙ go (numeral (digits_of l)) refl
  where
    go : (t : Bool) → numeral (digits_of l) ≡ t → signed (sign_of l) (digits_of l) ≡ Err NotNumber
    go true e = absurd (f (number l) (says_of l e))
    go false e = no_form (sign_of l) (digits_of l) e

-- ---- a line
int_left : (cs : List ℕ) → (remains cs ≡ [] → ⊥) → int_of cs ≡ parsed (remains cs)
unfolding encodes trim_start int_of
int_left [] h = absurd (h refl)
int_left (c ∷ cs) h = refl

int_says : (cs : List ℕ) (z : ℤ) → Says (remains cs) z → int_of cs ≡ ranged z
int_says cs z s = int_left cs (says_some (remains cs) z s) ∙ says_parsed (remains cs) z s

int_blank : (cs : List ℕ) → (cs ≡ [] → ⊥) → remains cs ≡ [] → int_of cs ≡ Err Blank
unfolding parsed int_of
int_blank [] h e = absurd (h refl)
int_blank (c ∷ cs) h e = rw e

means_is : (cs : List ℕ) (a : Number) → Means cs a → int_of cs ≡ a
unfolding int_of Means
means_is cs (Ok z) (s, r) = int_says cs z s ∙ in-range z r
means_is cs (Err Ended) e = rw e
means_is cs (Err Blank) (h, e) = int_blank cs h e
means_is cs (Err NotNumber) (h, f) = int_left cs h ∙ none_parsed (remains cs) h f
means_is cs (Err OutOfRange) (z, s, r) = int_says cs z s ∙ out_of_range z r

pub means_only : (cs : List ℕ) (a b : Number) → Means cs a → Means cs b → a ≡ b
means_only cs a b p q = sym (means_is cs a p) ∙ means_is cs b q

-- one of the five: by the characters, then by what is left of them, by its form, and by the number that it says
one_of : (cs : List ℕ) → (a : Number) × Means cs a
unfolding Means
one_of [] = (Err Ended, refl)
one_of (c ∷ cs) = by_left (remains (c ∷ cs)) refl
  where
    line : List ℕ
    line = c ∷ cs

    by_range : (z : ℤ) → Says (remains line) z → (t : Bool) → in_range z ≡ t → (a : Number) × Means line a
    by_range z s true r = (Ok z, (s, r))
    by_range z s false r = (Err OutOfRange, (z, s, r))

    by_form : (remains line ≡ [] → ⊥) → (t : Bool) → numeral (digits_of (remains line)) ≡ t → (a : Number) × Means line a
    by_form h true n = let z = number (remains line) in by_range z (says_of (remains line) n) (in_range z) refl
    by_form h false n = (Err NotNumber, (h, λ z s. true≢false (sym (says_is (remains line) z s).0 ∙ n)))

    by_left : (l : List ℕ) → remains line ≡ l → (a : Number) × Means line a
    by_left [] e = (Err Blank, (λ q. clash cc, e))
    by_left (b ∷ bs) e = by_form (λ q. clash cc) (numeral (digits_of (remains line))) refl

pub means : (cs : List ℕ) → Means cs (int_of cs)
means cs = let m = one_of cs in subst (Means cs) (sym (means_is cs m.0 m.1)) m.1

pub nothing_left : (s : List ℕ) (at : ℕ) (cs : List ℕ) → Utf8 (line_at s at) cs → (cs ≡ []) ↔ (length s ≤ at)
nothing_left s at cs u = (past, none)
  where
    past : cs ≡ [] → length s ≤ at
    past e =
        by_size at (length s) (λ h. absurd (some_char (line_at s at) cs u (rw line_part at (line_some s at (line_end s at) refl h)) e)) (λ h. h)

    none : length s ≤ at → cs ≡ []
    none h = utf8_unique (line_at s at) cs [] u (utf8_none (line_at s at) (rw (line_none s at h)))

pub skip_means : (s : List ℕ) (at n : ℕ) (why : Reason) → take_of int_of whole_line s at ≡ Skip n why
    → (cs : List ℕ) × Utf8 (line_at s at) cs × Means cs (Err why)
unfolding push_or_skip
skip_means s at n why e = go (takes_of int_of whole_line s at)
  where
    by_number : (cs : List ℕ) (a : Number) → int_of cs ≡ a → Skip n why ≡ push_or_skip a (line_end s at) → Means cs (Err why)
    by_number cs (Ok v) q h = clash cc
    by_number cs (Err w) q h =
        let z : w ≡ why = cc in
        subst (λ (x : Reason). Means cs (Err x)) z (subst (Means cs) q (means cs))

    go : Takes int_of whole_line s at (take_of int_of whole_line s at) → (cs : List ℕ) × Utf8 (line_at s at) cs × Means cs (Err why)
    go (reads cs u h) = (cs, u, by_number cs (int_of cs) refl (sym e ∙ h))
    go (bad f h) = clash cc
