-- Two outcomes that a contract allows for one input are equal, answer and lent list, for each public function:
--     classify                                       classify_only
--     check                                          check_only
--     label                                          label_only
--     pair_table                                     pair_table_only
--     found_at, colour_under, decode, decode_in,
--     no_setting, refuses, substitute                `equation_only` of base's proofs/Only.antt
-- Assumes nothing.
use mathlib.Core.Path.{◌≡◌, ◌∙◌, sym, ap, refl}
use mathlib.Core.Bool.{Bool, true, false}
use mathlib.Core.List.{List, [], ◌∷◌}
use Prim.Native.Nat.{ℕ, ◌<◌, ◌≤◌}
use native.Mathlib.Omega.{arith}
use lib.ListN.{length, get_or}
use lib.Seq.{ext_get_or}
use Rattle.base.specs.Lent.{lent}
use Rattle.base.specs.Numbers.{Numbers, numbers, number_of, row, first, unless_refused}
use Rattle.colour.specs.Classify as classify
use Rattle.colour.specs.Label as label
use Rattle.colour.specs.Lookup.{DecodesPairs}
use Rattle.colour.specs.Palette.{white}
use Rattle.std.specs.Prelude.{Result}
use Rattle.base.specs.declared.refusal.Refusal.{Refusal}
use Rattle.base.proofs.RefusalLaws.{Placeless, answered_only, placed_only}

-- a contract `numbered r ≡ n`
pub check_only : {n : Numbers} {r r' : Result (Unit {0}) Refusal} → classify.numbered r ≡ n → classify.numbered r' ≡ n → r ≡ r'
check_only {r = r} {r' = r'} p q = placed_only _ (λ t u e. refl) r r' (p ∙ sym q)

-- two outcomes that `classify` may have for one input are one
pub classify_only : {p : List ℕ} {h w s : ℕ} {before : List ℕ} {r r' : Result (Unit {0}) Refusal} {after after' : List ℕ}
    → classify.Outcome p h w s before r after → classify.Outcome p h w s before r' after' → (r ≡ r') × (after ≡ after')
classify_only {p} {h} {w} {s} {before} {r} {r'} o o' =
    let e : classify.numbered r ≡ classify.numbered r' = o.answers ∙ sym o'.answers in (
      check_only o.answers o'.answers,
      o.leaves ∙ ap (λ (n : Numbers). unless_refused n (lent (classify.colours_under p s) before) before) e ∙ sym o'.leaves,
    )

-- a label's answer names no place
label_placeless : (colour x y room : ℕ) (r : Result ℕ Refusal) → label.numbered r ≡ label.answer colour x y room → Placeless (number_of (label.numbered r))
unfolding label.answer first
label_placeless colour x y room r e = rw e (by_test (label.refused colour x y room))
  where
    by_test : (b : Bool) → Placeless (number_of (first (row b (numbers 12 (0 ∷ [])) ∷ []) (numbers 0 (length (label.label_of colour x y) ∷ []))))
    by_test true = (λ h. omega arith, λ h. omega arith)
    by_test false = (λ h. omega arith, λ h. omega arith)

-- two outcomes that `label` may have for one input are one
pub label_only : {colour x y : ℕ} {before : List ℕ} {r r' : Result ℕ Refusal} {after after' : List ℕ}
    → label.Outcome colour x y before r after → label.Outcome colour x y before r' after' → (r ≡ r') × (after ≡ after')
label_only {colour} {x} {y} {before} {r} {r'} o o' =
    let e : label.numbered r ≡ label.numbered r' = o.answers ∙ sym o'.answers in (
      answered_only _ (λ t u e. ap (λ (v : List ℕ). get_or v 0 0) e) _ r r' (label_placeless colour x y (length before) r o.answers) e,
      o.leaves ∙ ap (λ (n : Numbers). unless_refused n (lent (label.padded (label.label_of colour x y)) before) before) e ∙ sym o'.leaves,
    )

-- twenty rows of twenty, as the type of `pair_table` has them
abbrev Square : List (List ℕ) → Type 0
Square p = (length p ≡ 20) × ((i : ℕ) → i < 20 → length (get_or p i []) ≡ 20)

-- two tables that `pair_table` may give are one
pub pair_table_only : {p p' : List (List ℕ)} → Square p → Square p' → DecodesPairs p → DecodesPairs p' → p ≡ p'
pair_table_only {p} {p'} s s' d d' = ext_get_or [] p p' (s.0 ∙ sym s'.0) (λ i h. row i (omega (arith, s.0)))
  where
    row : (i : ℕ) → i < 20 → get_or p i [] ≡ get_or p' i []
    row i h =
        let n = s.1 i h in
        ext_get_or 0 (get_or p i []) (get_or p' i []) (n ∙ sym (s'.1 i h))
        (λ j k. let m : j ≤ white = omega (arith, n) in d.entry i j (omega arith) m ∙ sym (d'.entry i j (omega arith) m))
