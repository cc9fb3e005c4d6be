-- A field has one reading. Assumes nothing.
use mathlib.Core.Path.{◌≡◌, ◌∙◌, sym, ap}
use mathlib.Core.Bool.{true, false}
use mathlib.Core.List.{List, [], ◌∷◌, ◌++◌}
use Prim.Native.Nat.{ℕ, ◌<◌}
use native.Mathlib.Omega.{arith}
use lib.ListN.{length, drop, length-append, length-drop}
use Rattle.base.proofs.Tests.{and_both}
use Rattle.base.proofs.Digits.{is_numeral, numeral_some, numeral_all}
use Rattle.netpbm.specs.declared.field.Number.{Number}
use Rattle.base.specs.Text.{digit, all_digits, value_after}
use Rattle.netpbm.specs.File.{Spacing, Field}
use Rattle.netpbm.specs.Scan.{past_gap, past_digits, value_of, capped, stops, GapEnd, NumberEnd, FieldAt}
use Rattle.netpbm.proofs.Gaps.{past-gap, gap_stops, gap_split}
use Rattle.netpbm.proofs.Digits.{past-digits, value_digits, digits_split}

-- a gap ends where a number begins
past_to : {g : List ℕ} → Spacing g → (text after : List ℕ) → 0 < length text → all_digits text ≡ true → past_gap false (g ++ (text ++ after)) ≡ text ++ after
unfolding all_digits
past_to s [] after h a = absurd (omega arith)
past_to s (b ∷ text) after h a = past-gap s b (text ++ after) (and_both (digit b) (all_digits text) a).0

module _ {l : List ℕ} {n : ℕ} {after : List ℕ} (f : Field l n after) where
  pub field_text : past_gap false l ≡ f.text ++ after
  field_text = rw f.is (past_to f.apart.spacing f.text after (numeral_some f.text f.number) (numeral_all f.text f.number))

  pub field_rest : stops after ≡ true → past_digits (past_gap false l) ≡ after
  field_rest s = rw field_text (past-digits f.text after (numeral_all f.text f.number) s)

  pub field_value : stops after ≡ true → value_of 0 (past_gap false l) ≡ n
  field_value s = rw field_text (value_digits 0 f.text after (numeral_all f.text f.number) s ∙ sym f.value)

  -- what begins with a field begins with no digit
  pub field_stops : stops l ≡ true
  field_stops = rw f.is (gap_stops f.apart.spacing f.apart.some (f.text ++ after))

  -- a field has a gap, and a number
  pub field_gap : length (past_gap false l) < length l
  field_gap =
      let g = f.apart.some in
      let e = ap length f.is ∙ length-append f.gap (f.text ++ after) in
      omega (arith, ap length field_text)

  pub field_number : stops after ≡ true → length (past_digits (past_gap false l)) < length (past_gap false l)
  field_number s =
      let t = numeral_some f.text f.number in
      let e = ap length field_text ∙ length-append f.text after in
      omega (arith, ap length (field_rest s))

pub field_only : {l : List ℕ} {m n : ℕ} {r r' : List ℕ} → Field l m r → Field l n r' → stops r ≡ true → stops r' ≡ true
    → (m ≡ n) × (r ≡ r')
field_only f g s t = (sym (field_value f s) ∙ field_value g t, sym (field_rest f s) ∙ field_rest g t)

-- where a gap stands, and a digit after it, a field does
module _ (l : List ℕ) (gap : length (past_gap false l) < length l)
    (number : length (past_digits (past_gap false l)) < length (past_gap false l)) where
  pub field_of : Field l (value_of 0 (past_gap false l)) (past_digits (past_gap false l))
  field_of =
      let s = gap_split l (omega arith) in
      let t = digits_split (past_gap false l) in
      let n₀ = ap length s.2 ∙ length-append s.0 (past_gap false l) in
      let n₁ = ap length t.2 ∙ length-append t.0 (past_digits (past_gap false l)) in
      let v : value_of 0 (past_gap false l) ≡ value_after 0 t.0 =
      ap (value_of 0) t.2 ∙ value_digits 0 t.0 (past_digits (past_gap false l)) t.1 t.3 in
      record {
        gap = s.0;
        text = t.0;
        apart = record { some = omega arith; spacing = s.1 };
        number = is_numeral t.0 (omega arith) t.1;
        value = v;
        is = s.2 ∙ ap (λ (x : List ℕ). s.0 ++ x) t.2;
      }

  pub field_ends : stops (past_digits (past_gap false l)) ≡ true
  field_ends = (digits_split (past_gap false l)).3

-- what the helpers found is a field
module _ {file : List ℕ} {at start : ℕ} {r : Number} (g : GapEnd file at start) (d : NumberEnd file start r)
    (some : start ≡ at → ⊥) (more : r.next ≡ start → ⊥) where
  past_both : past_digits (past_gap false (drop at file)) ≡ drop r.next file
  past_both = ap past_digits g.is ∙ d.is

  gap_there : length (past_gap false (drop at file)) < length (drop at file)
  gap_there =
      let a = g.from in
      let b = g.to in
      rw (g.is, length-drop at file, length-drop start file) (omega arith)

  digits_there : length (past_digits (past_gap false (drop at file))) < length (past_gap false (drop at file))
  digits_there =
      let a = d.from in
      let b = d.to in
      rw (past_both, g.is, length-drop start file, length-drop r.next file) (omega arith)

  pub field_found : FieldAt file at r.value r.next
  field_found =
      let a = g.from in
      let b = d.from in
      record {
        from = omega arith;
        to = d.to;
        number = value_of 0 (past_gap false (drop at file));
        field = rw past_both at (field_of (drop at file) gap_there digits_there);
        ends = rw past_both at (field_ends (drop at file) gap_there digits_there);
        value_is = d.value ∙ ap (λ (l : List ℕ). capped (value_of 0 l)) (sym g.is);
      }

-- no field stands where no gap does, or no digit after it
module _ {file : List ℕ} {at start : ℕ} (g : GapEnd file at start) where
  pub no_gap : start ≡ at → (n : ℕ) (after : List ℕ) → stops after ≡ true → Field (drop at file) n after → ⊥
  no_gap e n after s f =
      let same : past_gap false (drop at file) ≡ drop at file = g.is ∙ ap (λ (i : ℕ). drop i file) e in
      omega (arith, field_gap f, ap length same)

  pub no_digits : {r : Number} → NumberEnd file start r → r.next ≡ start → (n : ℕ) (after : List ℕ) → stops after ≡ true
      → Field (drop at file) n after → ⊥
  no_digits d e n after s f =
      let same : past_digits (drop start file) ≡ drop start file = d.is ∙ ap (λ (i : ℕ). drop i file) e in
      let t : past_digits (past_gap false (drop at file)) ≡ past_gap false (drop at file) = rw g.is same in
      omega (arith, field_number f s, ap length t)
