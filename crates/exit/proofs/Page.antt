-- The page's table of sides (rule 14.5), and that the definitions have its eight entries. Assumes nothing.
use mathlib.Core.Path.{◌≡◌, refl}
use mathlib.Core.List.{List, [], ◌∷◌, map}
use Prim.Native.Nat.{ℕ}
use Rattle.flow.specs.Pointer.{of_number}
use Rattle.exit.specs.Leaving.{side_of}

-- the page's words
pub data Pick : Type 0 where
  rightmost lowermost leftmost uppermost : Pick

-- the direction in which such a codel lies furthest: right, down, left, up
abbrev pub toward : Pick → ℕ
toward rightmost = 0
toward lowermost = 1
toward leftmost = 2
toward uppermost = 3

-- what cc left and cc right pick, a line for dp right, down, left, up: so the entries stand by state, 0 to 7
abbrev pub page_table : List Pick
page_table =
    uppermost ∷ lowermost
    ∷ rightmost ∷ leftmost
    ∷ lowermost ∷ uppermost
    ∷ leftmost ∷ rightmost
    ∷ []

pub side_table : map (λ s. side_of (of_number s)) (0 ∷ 1 ∷ 2 ∷ 3 ∷ 4 ∷ 5 ∷ 6 ∷ 7 ∷ []) ≡ map toward page_table
side_table = refl
