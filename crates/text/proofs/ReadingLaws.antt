-- The functions that compute agree with the relations.
--     reading_is                 the characters of UTF-8 are its reading
--     same_self                  a list is the same as itself
--     valid_utf8, utf8-valid     `valid` is true exactly of bytes that some characters read
--     takes_of, takes_is         an input instruction takes `take_of`, and nothing else
-- Assumes nothing.
use Prim.Native.Nat.{ℕ, zero, suc, ◌<◌, ◌≤◌}
use mathlib.Core.Path.{◌≡◌, refl, sym, ap, ap₂, ◌∙◌, subst}
use mathlib.Core.Bool.{Bool, true, false, cond, false≢true}
use mathlib.Core.List.{List, [], ◌∷◌, ◌++◌}
use native.Mathlib.Omega.{arith}
use borrow.Author.Tests.{eqb-true, eq-eqb}
use lib.Dec.{eqb}
use lib.ListN.{length, length-append}
use Rattle.base.proofs.Tests.{and_both}
use Rattle.text.specs.Utf8.{scalars, encode, encodes, Utf8}
use Rattle.text.specs.Line.{line_at}
use Rattle.text.specs.Input.{push_or_skip, Next, Takes, reads, bad}
use Rattle.text.specs.Reading.{back, rest, chars, reading, same, valid, take_of}
use Rattle.text.specs.Number.{Number}
use Rattle.text.specs.declared.input.Taken.{Taken}
use Rattle.text.specs.declared.input.Taken.TheVariants.{BadInput}
use Rattle.text.proofs.Utf8Laws.{back_encode, rest_encode, encode_some}
use Rattle.text.proofs.Only.{takes_only}

-- ---- the one candidate
chars_step : (n : ℕ) (s : List ℕ) → 0 < length s → chars (suc n) s ≡ back s ∷ chars n (rest s)
unfolding chars
chars_step n [] h = absurd (omega arith)
chars_step n (b ∷ bs) h = refl

chars_none : (n : ℕ) → chars n [] ≡ []
unfolding chars
chars_none zero = refl
chars_none (suc n) = refl

chars_is : (n : ℕ) (cs : List ℕ) → length (encodes cs) ≤ n → chars n (encodes cs) ≡ cs
unfolding encodes
chars_is n [] l = chars_none n
chars_is zero (c ∷ cs) l = absurd (omega (arith, encode_some c, length-append (encode c) (encodes cs)))
chars_is (suc n) (c ∷ cs) l =
    let k = length-append (encode c) (encodes cs) in
    let e = encode_some c in
    chars_step n (encode c ++ encodes cs) (omega arith)
    ∙ ap₂ ◌∷◌ (back_encode c (encodes cs)) (ap (chars n) (rest_encode c (encodes cs)) ∙ chars_is n cs (omega arith))

pub reading_is : (s cs : List ℕ) → Utf8 s cs → reading s ≡ cs
reading_is s cs u =
    let l : length (encodes cs) ≤ length s = omega (arith, ap length u.same) in
    ap (chars (length s)) u.same ∙ chars_is (length s) cs l

-- ---- the tests
same_is : (a b : List ℕ) → same a b ≡ true → a ≡ b
unfolding same
same_is [] [] e = refl
same_is [] (b ∷ bs) e = absurd (false≢true e)
same_is (a ∷ l) [] e = absurd (false≢true e)
same_is (a ∷ l) (b ∷ bs) e = let p = and_both (eqb a b) (same l bs) e in ap₂ ◌∷◌ (eqb-true a b p.0) (same_is l bs p.1)

pub same_self : (a : List ℕ) → same a a ≡ true
unfolding same
same_self [] = refl
same_self (a ∷ l) = rw (eq-eqb a a refl) (same_self l)

pub valid_utf8 : (s : List ℕ) → valid s ≡ true → Utf8 s (reading s)
unfolding valid
valid_utf8 s e =
    let p = and_both (scalars (reading s)) (same s (encodes (reading s))) e in
    record { scalars = p.0; same = same_is s (encodes (reading s)) p.1 }

pub utf8_valid : (s cs : List ℕ) → Utf8 s cs → valid s ≡ true
unfolding valid
utf8_valid s cs u =
    let e : reading s ≡ cs = reading_is s cs u in
    let q : same s (encodes cs) ≡ true = subst (λ (l : List ℕ). same s l ≡ true) u.same (same_self s) in
    rw (e, u.scalars) q

-- ---- what an instruction takes
module _ (f : List ℕ → Number) (next : Next) (s : List ℕ) (at : ℕ) where
  takes_by : (t : Bool) → valid (line_at s at) ≡ t
      → Takes f next s at (cond t (push_or_skip (f (reading (line_at s at))) (next s at (reading (line_at s at)))) BadInput)
  takes_by true e = reads (reading (line_at s at)) (valid_utf8 (line_at s at) e) refl
  takes_by false e = bad (λ v. false≢true (sym e ∙ utf8_valid (line_at s at) v.0 v.1)) refl

  pub takes_of : Takes f next s at (take_of f next s at)
  unfolding take_of
  takes_of = takes_by (valid (line_at s at)) refl

  pub takes_is : (r : Taken) → Takes f next s at r → r ≡ take_of f next s at
  takes_is r p = takes_only f next s at r (take_of f next s at) p takes_of
