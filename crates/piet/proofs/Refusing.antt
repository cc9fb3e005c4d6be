-- The refusals of a call: that of an unknown edition, those of classifying, and where there are none those of building. Assumes
-- nothing.
use mathlib.Core.Path.{◌≡◌, refl, sym, ◌∙◌}
use mathlib.Core.Bool.{Bool, true, false}
use mathlib.Core.List.{List, [], ◌∷◌, ◌++◌}
use Prim.Native.Nat.{ℕ, zero, suc, ◌*◌, ◌≤◌}
use borrow.Author.Tests.{eqb-true, ltb-false, not-false}
use lib.ListN.{length}
use Rattle.base.specs.Edition.{unknown_edition}
use Rattle.base.specs.Numbers.{Numbers, numbers, Row, row, first}
use Rattle.base.specs.Limits.{wrong_side}
use Rattle.base.proofs.Refusals.{passed, refused}
use Rattle.base.proofs.Tests.{neither}
use Rattle.colour.specs.Classify as classifying
use Rattle.cfg.specs.Build as building
use Rattle.cfg.proofs.Refusing.{picture_none_refused, on_known as building-known}
use Rattle.piet.specs.RunPicture.{Asked, Lends, asked_picture, refusals, refusal, refusal_of}

-- two tables of refusals, one after the other
first_append : (a b : List Row) (last : Numbers) → first (a ++ b) last ≡ first a (first b last)
unfolding first
first_append [] b last = refl
first_append (row true n ∷ a) b last = refl
first_append (row false n ∷ a) b last = first_append a b last

-- a refusal of the first table, whatever stands after it
first_refused : (a : List Row) (k : ℕ) (v w : List ℕ) (last : Numbers) → numbers (suc k) v ≡ first a (numbers 0 w)
    → numbers (suc k) v ≡ first a last
unfolding first
first_refused [] k v w last e = absurd (refused k v w e)
first_refused (row true n ∷ a) k v w last e = e
first_refused (row false n ∷ a) k v w last e = first_refused a k v w last e

-- no row of five holds
falls : {a b c d e : Bool} (n₁ n₂ n₃ n₄ n₅ last : Numbers) → a ≡ false → b ≡ false → c ≡ false → d ≡ false → e ≡ false
    → first (row a n₁ ∷ row b n₂ ∷ row c n₃ ∷ row d n₄ ∷ row e n₅ ∷ []) last ≡ last
unfolding first
falls n₁ n₂ n₃ n₄ n₅ last p q r s t = rw (p, q, r, s, t)

-- what classifying leaves that refuses nothing: the tables after it decide
pub record Passes (pixels : List ℕ) (height width setting room : ℕ) : Type 0 where
  pub high : wrong_side height ≡ false
  pub wide : wrong_side width ≡ false
  pub bytes : length pixels ≡ 3 * (height * width)
  pub fits : height * width ≤ room
  pub next : (last : Numbers) → first (classifying.refusals pixels height width setting room) last ≡ last

pub passes : (pixels : List ℕ) (height width setting room : ℕ) (v : List ℕ) (last : Numbers)
    → numbers 0 v ≡ first (classifying.refusals pixels height width setting room) last → Passes pixels height width setting room
unfolding classifying.refusals classifying.unknown_pixel
passes pixels height width setting room v last h =
    let a = passed _ 0 _ v _ _ h in
    let b = passed _ 2 _ v _ _ a.1 in
    let c = passed _ 1 _ v _ _ b.1 in
    let d = passed _ 3 _ v _ _ c.1 in
    let e = passed _ 4 _ v _ _ d.1 in
    let sides = neither (wrong_side height) (wrong_side width) a.0 in
    record {
      high = sides.0;
      wide = sides.1;
      bytes = eqb-true _ _ (not-false _ c.0);
      fits = ltb-false _ _ d.0;
      next = λ last. falls _ _ _ _ _ last a.0 b.0 c.0 d.0 e.0;
    }

module _ (a : Asked) (colours map rows exits work : ℕ) where
  -- the answer of classifying, with or without a refusal
  abbrev classified : Numbers
  classified = classifying.answer a.pixels a.height a.width a.setting colours

  -- the tables of classifying and of building, one after the other
  abbrev both : Numbers
  both = first (classifying.refusals a.pixels a.height a.width a.setting colours) (building.picture_refusal (asked_picture a) map rows exits work)

  split : first (classifying.refusals a.pixels a.height a.width a.setting colours ++ building.picture_refusals (asked_picture a) map rows exits work) (numbers 0 (0 ∷ 0 ∷ []))
      ≡ both
  unfolding building.picture_refusal
  split = first_append (classifying.refusals a.pixels a.height a.width a.setting colours) (building.picture_refusals (asked_picture a) map rows exits work) (numbers 0 (0 ∷ 0 ∷ []))

  pub on_unknown : unknown_edition a.asks.edition ≡ true → numbers 15 (0 ∷ 0 ∷ []) ≡ refusal a colours map rows exits work
  unfolding refusal refusals first
  on_unknown u = rw u refl

  on_known : unknown_edition a.asks.edition ≡ false → both ≡ refusal a colours map rows exits work
  unfolding refusal refusals first
  on_known u = rw u (sym split)

  pub passes_on : (v : List ℕ) → numbers 0 v ≡ classified → Passes a.pixels a.height a.width a.setting colours
  unfolding classifying.answer
  passes_on v e = passes a.pixels a.height a.width a.setting colours v (numbers 0 (0 ∷ 0 ∷ [])) e

  module _ (known : unknown_edition a.asks.edition ≡ false) where
    pub on_classifying : (n : ℕ) (v : List ℕ) → (n ≡ 0 → ⊥) → numbers n v ≡ classified → numbers n v ≡ refusal a colours map rows exits work
    unfolding classifying.answer
    on_classifying zero v some e = absurd (some refl)
    on_classifying (suc k) v some e = first_refused (classifying.refusals a.pixels a.height a.width a.setting colours) k v (0 ∷ 0 ∷ []) (building.picture_refusal (asked_picture a) map rows exits work) e ∙ on_known known

    pub on_building : (v : List ℕ) → numbers 0 v ≡ classified → building.picture_refusal (asked_picture a) map rows exits work ≡ refusal a colours map rows exits work
    on_building v e = sym ((passes_on v e).next (building.picture_refusal (asked_picture a) map rows exits work)) ∙ on_known known

module _ (a : Asked) (l : Lends) where
  -- what a call that is not refused may rely on
  pub record Accepted : Type 0 where
    pub passing : Passes a.pixels a.height a.width a.setting (length l.colours)
    pub classifies : classifying.answer a.pixels a.height a.width a.setting (length l.colours) ≡ numbers 0 (0 ∷ 0 ∷ [])
    pub builds : building.refusal a.asks.edition (asked_picture a) (length l.map) (length l.rows) (length l.exits) (length l.work) ≡ numbers 0 (0 ∷ 0 ∷ [])
    pub none : refusal_of a l ≡ numbers 0 (0 ∷ 0 ∷ [])

  -- a call that is not refused names an edition
  known : (v : List ℕ) → numbers 0 v ≡ refusal_of a l → unknown_edition a.asks.edition ≡ false
  unfolding refusal refusals
  known v h = (passed _ 14 _ v _ _ h).0

  pub accepted : (v : List ℕ) → numbers 0 v ≡ refusal_of a l → Accepted
  unfolding classifying.answer
  accepted v h =
      let u = known v h in
      let b = building.picture_refusal (asked_picture a) (length l.map) (length l.rows) (length l.exits) (length l.work) in
      let s = sym (on_known a (length l.colours) (length l.map) (length l.rows) (length l.exits) (length l.work) u) in
      let P = passes a.pixels a.height a.width a.setting (length l.colours) v b (h ∙ s) in
      let z = picture_none_refused (asked_picture a) (length l.map) (length l.rows) (length l.exits) (length l.work) v (h ∙ s ∙ P.next b) in
      record {
        passing = P;
        classifies = P.next (numbers 0 (0 ∷ 0 ∷ []));
        builds = sym (building-known a.asks.edition (asked_picture a) (length l.map) (length l.rows) (length l.exits) (length l.work) u) ∙ z;
        none = s ∙ P.next b ∙ z;
      }
