-- `word::floor_rem` meets its contract: on a's side of 0 the remainder is what is left, on the other it falls short of it by a.
-- The laws for a below 0 are those for a above 0, of the negated numbers. Assumes nothing.
use Rattle.std.proofs.Common.{◌≡◌, ℕ, zero, suc, ◌%◌, true, false, ℤ, pos, negsuc, ◌+ℤ◌, neg_ℤ, sym, refl, ap, ◌∙◌, true≢false, arith, to_z-of_z, w64, SFits, to_z, of_z, ltb-true, le-ltb, lt-ltb}
use native.Mathlib.Nat.{zero-mod}
use lib.IntN.{neg_ℤ-neg_ℤ, neg_ℤ-+ℤ}
use lib.Signed.{lt_z, rem_z}
use Rattle.word.specs.Word.{residue}
use Rattle.word.proofs.Signed.{back, Neg, neg, NonNeg, nonneg, is_neg, is_non_neg}
use Rattle.word.proofs.Wrapping.{Rem, up, down, is_rem}
use Rattle.word.proofs.FloorLaws.{left, left_pos, left_neg, left_fits}
use Rattle.word.proofs.floor_rem.Goals as goal

-- a remainder that is not below 0 is the residue, one that is falls short of it by m
whole : {b r : ℤ} {m : ℕ} → Rem b m r → lt_z r (pos 0) ≡ false → r ≡ pos (residue b m)
whole (up r e) t = ap pos e
whole (down r h e) t = absurd (true≢false t)

short : {b r : ℤ} {m : ℕ} → Rem b m r → lt_z r (pos 0) ≡ true → r +ℤ pos m ≡ pos (residue b m)
short (up r e) t = absurd (omega (arith, ltb-true r 0 t))
short {m = m} (down r h e) t = rw (le-ltb m (suc r) h) (ap pos e)

kept : {a : ℤ} (b : ℤ) → NonNeg a → (a ≡ pos 0 → ⊥) → lt_z (rem_z b a) (pos 0) ≡ false → rem_z b a ≡ left b a
kept b (nonneg m f) h t = let l = left_pos b m h in whole (is_rem b m (omega arith)) t ∙ sym l.0

moved : {a : ℤ} (b : ℤ) → NonNeg a → (a ≡ pos 0 → ⊥) → lt_z (rem_z b a) (pos 0) ≡ true → rem_z b a +ℤ a ≡ left b a
moved b (nonneg m f) h t = let l = left_pos b m h in short (is_rem b m (omega arith)) t ∙ sym l.0

-- the remainder of the negated number
is-rem-neg : (b : ℤ) (k : ℕ) → Rem (neg_ℤ b) (suc k) (neg_ℤ (rem_z b (negsuc k)))
is-rem-neg b k = rw (← negated b k) (is_rem (neg_ℤ b) (suc k) (omega arith))
  where
    negated : (b : ℤ) (k : ℕ) → rem_z (neg_ℤ b) (pos (suc k)) ≡ neg_ℤ (rem_z b (negsuc k))
    negated (pos zero) k = rw (zero-mod (suc k)) refl
    negated (pos (suc n)) k = refl
    negated (negsuc n) k = sym (neg_ℤ-neg_ℤ (pos (suc n % suc k)))

sign : (r : ℤ) → lt_z (neg_ℤ r) (pos 0) ≡ lt_z (pos 0) r
sign (pos zero) = refl
sign (pos (suc n)) = sym (lt-ltb 0 (suc n) (omega arith))
sign (negsuc n) = le-ltb (suc n) 0 (omega arith)

kept-below : {a : ℤ} (b : ℤ) → Neg a → lt_z (pos 0) (rem_z b a) ≡ false → rem_z b a ≡ left b a
kept-below b (neg k f) t =
    let r = rem_z b (negsuc k) in
    sym (neg_ℤ-neg_ℤ r) ∙ ap neg_ℤ (whole (is-rem-neg b k) (sign r ∙ t)) ∙ sym (left_neg b k).0

moved-below : {a : ℤ} (b : ℤ) → Neg a → lt_z (pos 0) (rem_z b a) ≡ true → rem_z b a +ℤ a ≡ left b a
moved-below b (neg k f) t =
    let r = rem_z b (negsuc k) in
    ap (λ (z : ℤ). z +ℤ negsuc k) (sym (neg_ℤ-neg_ℤ r))
    ∙ sym (neg_ℤ-+ℤ (neg_ℤ r) (pos (suc k)))
    ∙ ap neg_ℤ (short (is-rem-neg b k) (sign r ∙ t))
    ∙ sym (left_neg b k).0

pub returns-then-r-gt0 : goal.returns-then-r-gt0
returns-then-r-gt0 c =
    let rem_is : to_z w64 (of_z w64 c.wrapping_rem-r.result) ≡ rem_z c.args.b c.args.a = back c.wrapping_rem-r.result c.wrapping_rem-r.type_inv ∙ rw (to_z-of_z c.ranges.b, to_z-of_z c.ranges.a) at c.wrapping_rem-r.ensures in
    let is-neg : Neg c.args.a = is_neg _ c.ranges.a c.if-a-lt0.true in
    let Sum : Type 0 =
    to_z w64 (of_z w64 c.wrapping_rem-r.result) +ℤ to_z w64 (of_z w64 c.args.a) ≡ left c.args.b c.args.a in
    let sum_below : Sum =
    rw (rem_is, to_z-of_z c.ranges.a) (moved-below c.args.b is-neg (rw rem_is at c.if-r-gt0.true)) in
    let fits : SFits w64 (left c.args.b c.args.a) = left_fits c.args.b c.args.a c.ranges.a c.requires in
    rw sum_below (to_z-of_z fits)

pub returns-then-a-lt0 : goal.returns-then-a-lt0
returns-then-a-lt0 c =
    let rem_is : to_z w64 (of_z w64 c.wrapping_rem-r.result) ≡ rem_z c.args.b c.args.a = back c.wrapping_rem-r.result c.wrapping_rem-r.type_inv ∙ rw (to_z-of_z c.ranges.b, to_z-of_z c.ranges.a) at c.wrapping_rem-r.ensures in
    let is-neg : Neg c.args.a = is_neg _ c.ranges.a c.if-a-lt0.true in
    rem_is ∙ kept-below c.args.b is-neg (rw rem_is at c.if-r-gt0.false)

pub returns-then-r-lt0 : goal.returns-then-r-lt0
returns-then-r-lt0 c =
    let rem_is : to_z w64 (of_z w64 c.wrapping_rem-r.result) ≡ rem_z c.args.b c.args.a = back c.wrapping_rem-r.result c.wrapping_rem-r.type_inv ∙ rw (to_z-of_z c.ranges.b, to_z-of_z c.ranges.a) at c.wrapping_rem-r.ensures in
    let is-nonneg : NonNeg c.args.a = is_non_neg _ c.ranges.a c.if-a-lt0.false in
    let Sum : Type 0 =
    to_z w64 (of_z w64 c.wrapping_rem-r.result) +ℤ to_z w64 (of_z w64 c.args.a) ≡ left c.args.b c.args.a in
    let sum-above : Sum =
    rw (rem_is, to_z-of_z c.ranges.a)
    (moved c.args.b is-nonneg c.requires (rw rem_is at c.if-r-lt0.true)) in
    let fits : SFits w64 (left c.args.b c.args.a) = left_fits c.args.b c.args.a c.ranges.a c.requires in
    rw sum-above (to_z-of_z fits)

pub returns : goal.returns
returns c =
    let rem_is : to_z w64 (of_z w64 c.wrapping_rem-r.result) ≡ rem_z c.args.b c.args.a = back c.wrapping_rem-r.result c.wrapping_rem-r.type_inv ∙ rw (to_z-of_z c.ranges.b, to_z-of_z c.ranges.a) at c.wrapping_rem-r.ensures in
    let is-nonneg : NonNeg c.args.a = is_non_neg _ c.ranges.a c.if-a-lt0.false in
    rem_is ∙ kept c.args.b is-nonneg c.requires (rw rem_is at c.if-r-lt0.false)
