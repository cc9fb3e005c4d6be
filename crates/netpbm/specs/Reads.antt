-- What reading a P6 file answers and leaves (rules 12.9, 15.4). Assumes nothing.
use Rattle.std.specs.Prelude.{◌≡◌, true, not, ◌||◌, List, [], ◌∷◌, ℕ, ◌*◌, eqb, ltb, length, Result}
use Rattle.base.specs.Numbers.{Numbers, numbers, Row, row, first, unless_refused}
use Rattle.base.specs.Lent.{lent}
use Rattle.base.specs.Limits.{wrong_side}
use Rattle.base.specs.Refusal.{place_cells, answered}
use Rattle.base.specs.declared.refusal.Refusal.{Refusal}
use Rattle.netpbm.specs.declared.reading.Sides.{Sides}
use Rattle.netpbm.specs.File.{IsHeader}

-- the answer's number (rule 12.2), and the height and the width, zeros where the call is refused
abbrev pub numbered : Result Sides Refusal → Numbers
numbered = answered (λ s. s.height ∷ s.width ∷ []) place_cells

-- what a file says: the height, the width and the bytes after its header; nothing where it has no header with maximum 255
pub data Said : Type 0 where
  nothing : Said
  said : ℕ → ℕ → List ℕ → Said

abbrev pub Says : List ℕ → Said → Type 0
Says file nothing = (height width : ℕ) (pixels : List ℕ) → IsHeader file height width 255 pixels → ⊥
Says file (said height width pixels) = IsHeader file height width 255 pixels

-- the height and the width that are said, and the bytes
abbrev pub sides_of : Said → List ℕ
sides_of nothing = 0 ∷ 0 ∷ []
sides_of (said height width pixels) = height ∷ width ∷ []

abbrev pub pixels_of : Said → List ℕ
pixels_of nothing = []
pixels_of (said height width pixels) = pixels

-- 13 where nothing is said; else 1 for a side out of bounds, 14 for too few or too many pixel bytes, 4 for too little room (rule
-- 12.9)
unfoldable pub refusals : Said → ℕ → List Row
refusals nothing room = row true (numbers 13 (0 ∷ 0 ∷ [])) ∷ []
refusals (said height width pixels) room =
    row (wrong_side height || wrong_side width) (numbers 1 (0 ∷ 0 ∷ []))
    ∷ row (not (eqb (length pixels) (3 * (height * width)))) (numbers 14 (0 ∷ 0 ∷ []))
    ∷ row (ltb room (3 * (height * width))) (numbers 4 (0 ∷ 0 ∷ []))
    ∷ []

unfoldable pub answer : Said → ℕ → Numbers
answer s room = first (refusals s room) (numbers 0 (sides_of s))

-- by what the file says: its answer, and its pixel bytes at the start of what is lent
pub record Outcome (file before : List ℕ) (r : Result Sides Refusal) (after : List ℕ) : Type 0 where
  pub content : Said
  pub says : Says file content
  pub answers : numbered r ≡ answer content (length before)
  pub leaves : after ≡ unless_refused (numbered r) (lent (pixels_of content) before) before
