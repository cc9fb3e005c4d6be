-- Laws of gaps: what stands after one is found from the left. Assumes nothing.
use mathlib.Core.Path.{◌≡◌, ◌∙◌, sym, ap, refl}
use mathlib.Core.Bool.{Bool, true, false, not}
use mathlib.Core.List.{List, [], ◌∷◌, ◌++◌, append_assoc}
use Prim.Native.Nat.{ℕ, ◌+◌, ◌<◌, ◌≤◌}
use native.Mathlib.Omega.{arith}
use borrow.Author.Tests.{eqb-true}
use lib.Dec.{eqb}
use lib.ListN.{length, get_or, drop, drop_of_length-le}
use lib.Seq.{drop-cons}
use native.Mathlib.Numerals.{add-one}
use Rattle.base.proofs.Tests.{and_both}
use Rattle.base.specs.Text.{digit}
use Rattle.netpbm.specs.File.{header_white, one_line, Spacing, none, white, comment}
use Rattle.netpbm.specs.Scan.{goes_on, comment_after, past_gap, stops}
use Rattle.netpbm.proofs.Bytes.{digit_ends, white_ends, white_plain}

-- one byte more
past_white : (b : ℕ) (l : List ℕ) → header_white b ≡ true → past_gap false (b ∷ l) ≡ past_gap false l
unfolding past_gap goes_on comment_after
past_white b l e = rw (e, white_plain b e)

past_hash : (b : ℕ) (l : List ℕ) → header_white b ≡ false → eqb b 35 ≡ true → past_gap false (b ∷ l) ≡ past_gap true l
unfolding past_gap goes_on comment_after
past_hash b l e k = rw (e, k)

past_none : (b : ℕ) (l : List ℕ) → goes_on false b ≡ false → past_gap false (b ∷ l) ≡ b ∷ l
unfolding past_gap
past_none b l e = rw e

past_inside : (b : ℕ) (l : List ℕ) (e : Bool) → eqb b 10 ≡ e → past_gap true (b ∷ l) ≡ past_gap (not e) l
unfolding past_gap goes_on comment_after
past_inside b l e k = rw k

-- a comment, and any gap, is passed over
past_comment : (text l : List ℕ) → one_line text ≡ true → past_gap true (text ++ 10 ∷ l) ≡ past_gap false l
unfolding one_line
past_comment [] l o = past_inside 10 l true refl
past_comment (b ∷ text) l o =
    let d = and_both (not (eqb b 10)) (one_line text) o in
    past_inside b (text ++ 10 ∷ l) (eqb b 10) refl ∙ rw d.0 (past_comment text l d.1)

hash_dark : header_white 35 ≡ false
unfolding header_white
hash_dark = refl

pub past_spacing : {g : List ℕ} → Spacing g → (l : List ℕ) → past_gap false (g ++ l) ≡ past_gap false l
past_spacing (none e) l = rw e
past_spacing (white b after w s e) l = rw e (past_white b (after ++ l) w ∙ past_spacing s l)
past_spacing (comment text after o s e) l =
    rw (e, append_assoc text (10 ∷ after) l)
    (past_hash 35 (text ++ 10 ∷ (after ++ l)) hash_dark refl ∙ past_comment text (after ++ l) o ∙ past_spacing s l)

-- up to a digit
pub past-gap : {g : List ℕ} → Spacing g → (b : ℕ) (l : List ℕ) → digit b ≡ true → past_gap false (g ++ b ∷ l) ≡ b ∷ l
past-gap s b l e = past_spacing s (b ∷ l) ∙ past_none b l (digit_ends b e)

-- a gap does not begin with a digit
pub gap_stops : {g : List ℕ} → Spacing g → 0 < length g → (l : List ℕ) → stops (g ++ l) ≡ true
unfolding stops digit
gap_stops (none e) h l = absurd (omega (arith, ap length e))
gap_stops (white b after w s e) h l = rw (e, white_ends b w)
gap_stops (comment text after o s e) h l = rw e

-- what is passed over is a gap, unless a comment in it has no end
abbrev pub Split : Bool → List ℕ → List ℕ → Type 0
Split false l r = (g : List ℕ) × Spacing g × (l ≡ g ++ r)
Split true l r = (text g : List ℕ) × (one_line text ≡ true) × Spacing g × (l ≡ text ++ 10 ∷ (g ++ r))

abbrev pub Splits : Bool → List ℕ → Type 0
Splits inside l = 0 < length (past_gap inside l) → Split inside l (past_gap inside l)

within : (b : ℕ) (l : List ℕ) → ((s : Bool) → Splits s l) → (e : Bool) → eqb b 10 ≡ e → Splits true (b ∷ l)
unfolding one_line
within b l next true k h =
    let p = past_inside b l true k in
    let s = next false (rw p at h) in (
      [],
      s.0,
      refl,
      s.1,
      ap (λ (x : ℕ). x ∷ l) (eqb-true b 10 k) ∙ ap (λ (x : List ℕ). 10 ∷ x) (s.2 ∙ ap (λ (x : List ℕ). s.0 ++ x) (sym p)),
    )
within b l next false k h =
    let p = past_inside b l false k in
    let s = next true (rw p at h) in
    (b ∷ s.0, s.1, rw k s.2, s.3, rw (p, ← s.4))

outside : (b : ℕ) (l : List ℕ) → ((s : Bool) → Splits s l) → (w c : Bool) → header_white b ≡ w → eqb b 35 ≡ c → Splits false (b ∷ l)
unfolding goes_on
outside b l next true c e k h =
    let p = past_white b l e in
    let s = next false (rw p at h) in
    (b ∷ s.0, white b s.0 e s.1 refl, rw (p, ← s.2))
outside b l next false true e k h =
    let p = past_hash b l e k in
    let s = next true (rw p at h) in (
      35 ∷ (s.0 ++ 10 ∷ s.1),
      comment s.0 s.1 s.2 s.3 refl,
      ap (λ (x : ℕ). x ∷ l) (eqb-true b 35 k)
          ∙ ap (λ (x : List ℕ). 35 ∷ x)
          (s.4
          ∙ sym (append_assoc s.0 (10 ∷ s.1) (past_gap true l))
          ∙ ap (λ (x : List ℕ). (s.0 ++ 10 ∷ s.1) ++ x) (sym p)),
    )
outside b l next false false e k h =
    let p = past_none b l (rw (e, k)) in
    ([], none refl, rw p)

split : (inside : Bool) (l : List ℕ) → Splits inside l
unfolding past_gap
split inside [] h = absurd (omega arith)
split true (b ∷ l) h = within b l (λ s. split s l) (eqb b 10) refl h
split false (b ∷ l) h = outside b l (λ s. split s l) (header_white b) (eqb b 35) refl refl h

pub gap_split : (l : List ℕ) → 0 < length (past_gap false l) → (g : List ℕ) × Spacing g × (l ≡ g ++ past_gap false l)
gap_split l h = split false l h

-- one turn of the loop that looks for a gap's end
module _ (file : List ℕ) (inside : Bool) where
  pub gap_on : (after : Bool) (i : ℕ) → i < length file → goes_on inside (get_or file i 0) ≡ true → after ≡ comment_after inside (get_or file i 0)
      → past_gap inside (drop i file) ≡ past_gap after (drop (i + 1) file)
  unfolding past_gap
  gap_on after i h e k = rw (add-one i, drop-cons file i 0 h, e, ← k)

  pub gap_end : (i : ℕ) → i < length file → goes_on inside (get_or file i 0) ≡ false → past_gap inside (drop i file) ≡ drop i file
  unfolding past_gap
  gap_end i h e = rw (drop-cons file i 0 h, e)

  pub gap_all : (i : ℕ) → length file ≤ i → past_gap inside (drop i file) ≡ drop i file
  unfolding past_gap
  gap_all i h = rw (drop_of_length-le file h)
