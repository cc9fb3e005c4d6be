-- Refusals: the number of each (rule 12.2), and the place that it names. Assumes nothing.
use Rattle.std.specs.Prelude.{List, [], ◌∷◌, ℕ, Result, Ok, Err}
use Rattle.base.specs.declared.refusal.Refusal.{Refusal}
use Rattle.base.specs.Numbers.{Numbers, numbers}
use Rattle.base.specs.declared.refusal.Refusal.TheVariants.{
  Size,
  Bytes,
  Setting,
  Room,
  Pixel,
  Codel,
  Grid,
  Colour,
  White,
  Table,
  Job,
  Label,
  Header,
  Length,
  Edition,
  Limit,
}

-- the one place where a refusal gets its number
abbrev pub number_of_refusal : Refusal → ℕ
number_of_refusal Size = 1
number_of_refusal Bytes = 2
number_of_refusal Setting = 3
number_of_refusal Room = 4
number_of_refusal (Pixel r c) = 5
number_of_refusal Codel = 6
number_of_refusal Grid = 7
number_of_refusal (Colour i) = 8
number_of_refusal White = 9
number_of_refusal Table = 10
number_of_refusal Job = 11
number_of_refusal Label = 12
number_of_refusal Header = 13
number_of_refusal Length = 14
number_of_refusal Edition = 15
number_of_refusal Limit = 16

-- in two cells: the row and the column of a pixel; 0 and the index of a colour; zeros where no place is named
abbrev pub place_of : Refusal → ℕ × ℕ
place_of Size = (0, 0)
place_of Bytes = (0, 0)
place_of Setting = (0, 0)
place_of Room = (0, 0)
place_of (Pixel r c) = (r, c)
place_of Codel = (0, 0)
place_of Grid = (0, 0)
place_of (Colour i) = (0, i)
place_of White = (0, 0)
place_of Table = (0, 0)
place_of Job = (0, 0)
place_of Label = (0, 0)
place_of Header = (0, 0)
place_of Length = (0, 0)
place_of Edition = (0, 0)
place_of Limit = (0, 0)

-- the same as the cells of an answer
abbrev pub place_cells : Refusal → List ℕ
place_cells r = let p = place_of r in p.0 ∷ p.1 ∷ []

-- what a call answers, in numbers (rules 12.1, 12.2): 0 and the values of what it gives, or the number of the refusal and its values
abbrev pub answered : {T : Type 0} → (T → List ℕ) → (Refusal → List ℕ) → Result T Refusal → Numbers
answered given refused (Ok t) = numbers 0 (given t)
answered given refused (Err r) = numbers (number_of_refusal r) (refused r)

-- the same of tests, which give nothing: zeros where all are passed
abbrev pub tested : Result (Unit {0}) Refusal → Numbers
tested = answered (λ u. 0 ∷ 0 ∷ []) place_cells
