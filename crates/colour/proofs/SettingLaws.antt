-- What the settings for unknown pixels come to: 0 acts as 2, and 5 is given for 1 alone (rule 1.2). Assumes nothing.
use mathlib.Core.Path.{◌≡◌, ◌∙◌, sym, refl}
use mathlib.Core.Bool.{Bool, ◌&&◌}
use mathlib.Core.List.{List, [], ◌∷◌, map}
use Prim.Native.Nat.{ℕ, ◌*◌, ◌<◌, ◌≤◌}
use native.Mathlib.Omega.{arith}
use borrow.Author.Tests.{eqb-true, ltb-false}
use lib.ListN.{get_or}
use Rattle.std.specs.Prelude.{Option, Some, None}
use Rattle.base.specs.Numbers.{Numbers, numbers, Row, row, first}
use Rattle.base.proofs.Refusals.{refused, passed, another, holds, no_row}
use Rattle.base.proofs.Tests.{and_both}
use Rattle.std.specs.Prelude.{Result}
use Rattle.base.specs.declared.refusal.Refusal.{Refusal}
use Rattle.colour.specs.Setting.{refusing, refuses}
use Rattle.colour.specs.Classify.{found, known_first, colour_under, colours_under, unknown_pixel, refusals, answer, Outcome}
use Rattle.colour.proofs.FirstUnknown.{known_before}

default_colour : (f : Option ℕ) → colour_under 0 f ≡ colour_under 2 f
unfolding colour_under
default_colour (Some c) = refl
default_colour None = refl

pub default_colours : (pixels : List ℕ) → colours_under pixels 0 ≡ colours_under pixels 2
unfolding colours_under
default_colours pixels = λ i. map (λ (f : Option ℕ). default_colour f i) (found pixels)

pub default_refusals : (pixels : List ℕ) (height width room : ℕ) → refusals pixels height width 0 room ≡ refusals pixels height width 2 room
unfolding refusals
default_refusals pixels height width room = refl

-- what a call may do under 0 it may do under 2, and the other way round
pub default_outcome : {pixels : List ℕ} {height width : ℕ} {before : List ℕ} {r : Result (Unit {0}) Refusal} {after : List ℕ}
    → (Outcome pixels height width 0 before r after → Outcome pixels height width 2 before r after)
    × (Outcome pixels height width 2 before r after → Outcome pixels height width 0 before r after)
unfolding answer refusals
default_outcome {pixels} = (
  λ o. record { answers = o.answers; leaves = rw (default_colours pixels) at o.leaves },
  λ o. record { answers = o.answers; leaves = rw (← default_colours pixels) at o.leaves },
)

-- a row of refusal 5 that was given: the setting is 1
pub by_setting_1 : (setting : ℕ) (b : Bool) (u v : List ℕ) (rows : List Row) (last : Numbers) → (first rows last ≡ numbers 5 v → ⊥)
    → first (row (refuses setting && b) (numbers 5 u) ∷ rows) last ≡ numbers 5 v → setting ≡ 1
by_setting_1 setting b u v rows last d e = eqb-true setting 1 (and_both (refuses setting) b (holds _ _ _ rows last d e)).0

-- 5 is given for setting 1 alone
pub refused_under_1 : (pixels : List ℕ) (height width setting room : ℕ) (v : List ℕ) → answer pixels height width setting room ≡ numbers 5 v
    → setting ≡ 1
unfolding answer refusals unknown_pixel
refused_under_1 pixels height width setting room v e =
    let a = another _ 1 5 _ v _ _ (λ h. omega arith) e in
    let b = another _ 3 5 _ v _ _ (λ h. omega arith) a in
    let c = another _ 2 5 _ v _ _ (λ h. omega arith) b in
    let d = another _ 4 5 _ v _ _ (λ h. omega arith) c in
    by_setting_1 setting _ _ v [] _ (λ z. refused 4 v _ (sym z ∙ no_row _)) d

-- where classifying under 1 refuses nothing, every pixel is known
pub all_known : (pixels : List ℕ) (height width room : ℕ) (v : List ℕ) → numbers 0 v ≡ answer pixels height width refusing room
    → (i : ℕ) → i < height * width → (c : ℕ) × (get_or (found pixels) i None ≡ Some c)
unfolding answer refusals unknown_pixel
all_known pixels height width room v e i h =
    let a = passed _ 0 _ v _ _ e in
    let b = passed _ 2 _ v _ _ a.1 in
    let c = passed _ 1 _ v _ _ b.1 in
    let d = passed _ 3 _ v _ _ c.1 in
    let f : height * width ≤ known_first (found pixels) = ltb-false _ _ (passed _ 4 _ v _ _ d.1).0 in
    known_before (found pixels) i (omega arith)
