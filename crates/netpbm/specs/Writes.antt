-- What writing a P6 file answers and leaves (rules 12.10, 15.5). Assumes nothing.
use Rattle.std.specs.Prelude.{◌≡◌, not, ◌||◌, List, [], ◌∷◌, ℕ, ◌*◌, eqb, ltb, length, Result}
use Rattle.base.specs.Numbers.{Numbers, numbers, Row, row, first, unless_refused}
use Rattle.base.specs.Lent.{lent}
use Rattle.base.specs.Limits.{wrong_side}
use Rattle.base.specs.Refusal.{answered}
use Rattle.base.specs.declared.refusal.Refusal.{Refusal}
use Rattle.netpbm.specs.File.{shortest}

-- the answer's number (rule 12.2), and how many bytes were written
abbrev pub numbered : Result ℕ Refusal → Numbers
numbered = answered (λ length. length ∷ []) (λ r. 0 ∷ [])

-- 1 for a side out of bounds, 2 for pixel bytes that don't fit the sides, 4 for too little room (rule 12.10)
unfoldable pub refusals : List ℕ → ℕ → ℕ → ℕ → List Row
refusals pixels height width room =
    row (wrong_side height || wrong_side width) (numbers 1 (0 ∷ []))
    ∷ row (not (eqb (length pixels) (3 * (height * width)))) (numbers 2 (0 ∷ []))
    ∷ row (ltb room (length (shortest height width pixels))) (numbers 4 (0 ∷ []))
    ∷ []

unfoldable pub answer : List ℕ → ℕ → ℕ → ℕ → Numbers
answer pixels height width room =
    first (refusals pixels height width room) (numbers 0 (length (shortest height width pixels) ∷ []))

-- the file stands at the start of what is lent
pub record Outcome (pixels : List ℕ) (height width : ℕ) (before : List ℕ) (r : Result ℕ Refusal) (after : List ℕ) : Type 0 where
  pub answers : numbered r ≡ answer pixels height width (length before)
  pub leaves : after ≡ unless_refused (numbered r) (lent (shortest height width pixels) before) before
