-- Classifying: refusals 1, 3, 2, 4, 5 in this order (rule 12.3), and what is written (rules 1.2, 1.3). Assumes nothing.
use Rattle.std.specs.Prelude.{◌≡◌, Bool, not, ◌&&◌, ◌||◌, List, [], ◌∷◌, map, ℕ, suc, ◌*◌, ◌/◌, ◌%◌, eqb, ltb, length, Option, Some, None, unwrap_or, Result}
use Rattle.base.specs.declared.refusal.Refusal.{Refusal}
use Rattle.base.specs.Numbers.{Numbers, numbers, Row, row, first, unless_refused}
use Rattle.base.specs.Refusal.{tested}
use Rattle.base.specs.Lent.{lent}
use Rattle.base.specs.Limits.{wrong_side}
use Rattle.colour.specs.Palette.{colour_of, pixels_of}
use Rattle.colour.specs.Setting.{no_setting, refuses, substitute}

-- the answer's number (rule 12.2), and the row and the column, zeros where there is none
abbrev pub numbered : Result (Unit {0}) Refusal → Numbers
numbered = tested

-- how many colours stand before the first that is unknown
unfoldable pub known_first : List (Option ℕ) → ℕ
known_first [] = 0
known_first (Some c ∷ fs) = suc (known_first fs)
known_first (None ∷ fs) = 0

-- the colour number of a pixel
unfoldable pub colour_under : ℕ → Option ℕ → ℕ
colour_under s f = unwrap_or f (substitute s)

unfoldable pub found : List ℕ → List (Option ℕ)
found p = map colour_of (pixels_of p)

-- refusal 5 under a setting that refuses: the row and the column of the first unknown pixel, counted row by row
unfoldable pub unknown_pixel : Bool → List ℕ → ℕ → ℕ → Row
unknown_pixel strict pixels n width =
    let k = known_first (found pixels) in
    row (strict && ltb k n) (numbers 5 (k / width ∷ k % width ∷ []))

-- the table of refusals, in classifying's order (rule 12.3)
unfoldable pub refusals : List ℕ → ℕ → ℕ → ℕ → ℕ → List Row
refusals pixels height width setting room =
    row (wrong_side height || wrong_side width) (numbers 1 (0 ∷ 0 ∷ []))
    ∷ row (no_setting setting) (numbers 3 (0 ∷ 0 ∷ []))
    ∷ row (not (eqb (length pixels) (3 * (height * width)))) (numbers 2 (0 ∷ 0 ∷ []))
    ∷ row (ltb room (height * width)) (numbers 4 (0 ∷ 0 ∷ []))
    ∷ unknown_pixel (refuses setting) pixels (height * width) width
    ∷ []

unfoldable pub answer : List ℕ → ℕ → ℕ → ℕ → ℕ → Numbers
answer pixels height width setting room = first (refusals pixels height width setting room) (numbers 0 (0 ∷ 0 ∷ []))

-- one colour number for each pixel
unfoldable pub colours_under : List ℕ → ℕ → List ℕ
colours_under pixels setting = map (colour_under setting) (found pixels)

-- what a call answers and leaves
pub record Outcome (pixels : List ℕ) (height width setting : ℕ) (before : List ℕ) (r : Result (Unit {0}) Refusal) (after : List ℕ) : Type 0 where
  pub answers : numbered r ≡ answer pixels height width setting (length before)
  pub leaves : after ≡ unless_refused (numbered r) (lent (colours_under pixels setting) before) before
