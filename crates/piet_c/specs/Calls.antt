-- What each call makes: the layers' own outcomes, by their numbers (rules 8.5, 12.2, 15.4, 15.5, 17.4, 18.1). Assumes nothing.
use Rattle.std.specs.Prelude.{◌≡◌, Bool, List, ◌++◌, ℕ, ◌+◌, ◌-◌, length, replicate, ℤ, Result}
use Rattle.base.specs.Numbers.{Numbers, numbers}
use Rattle.picture.specs.Picture.{Picture}
use Rattle.base.specs.declared.refusal.Refusal.{Refusal}
use Rattle.colour.specs.Classify as classifying
use Rattle.colour.specs.Label as labelling
use Rattle.cfg.specs.Build as building
use Rattle.machine.specs.Machine.{Asks}
use Rattle.machine.specs.Held.{Slices, slices}
use Rattle.interpreter.specs.declared.Ended.{Ended}
use Rattle.interpreter.specs.Outcome as running
use Rattle.interpreter.specs.Recorded.{Recorded}
use Rattle.interpreter.specs.Forever as always
use Rattle.visits.specs.declared.Visited.{Visited}
use Rattle.visits.specs.Outcome as visiting
use Rattle.piet.specs.declared.run_picture.Pictured.{Pictured}
use Rattle.piet.specs.RunPicture as picturing
use Rattle.piet.specs.RunPicture.{Asked, Lends}
use Rattle.netpbm.specs.declared.reading.Sides.{Sides}
use Rattle.netpbm.specs.Reads as reading
use Rattle.netpbm.specs.Writes as writing

abbrev pub ClassifyCall : List ℕ → ℕ → ℕ → ℕ → List ℕ → Numbers → List ℕ → Type 0
ClassifyCall pixels height width setting colours n colours' =
    (r : Result (Unit {0}) Refusal) × (classifying.numbered r ≡ n) × classifying.Outcome pixels height width setting colours r colours'

abbrev pub LabelCall : ℕ → ℕ → ℕ → List ℕ → Numbers → List ℕ → Type 0
LabelCall colour row column out n out' = (r : Result ℕ Refusal) × (labelling.numbered r ≡ n) × labelling.Outcome colour row column out r out'

-- the four slices that building lends
pub record TableRoom : Type 0 where
  pub map : List ℕ
  pub rows : List ℕ
  pub exits : List ℕ
  pub work : List ℕ

abbrev pub table_room : List ℕ → List ℕ → List ℕ → List ℕ → TableRoom
table_room map rows exits work = record { map = map; rows = rows; exits = exits; work = work }

abbrev pub BuildCall : ℕ → Picture → TableRoom → Numbers → TableRoom → Type 0
BuildCall edition p s n s' =
    (r : Result ℕ Refusal) × (building.numbered r ≡ n)
    × building.Outcome edition p s.map s.rows s.exits s.work r s'.map s'.rows s'.exits s'.work

abbrev pub RunCall : ℕ → List ℕ → List ℕ → Asks → Slices → Numbers → Slices → Type 0
RunCall n rows exits a l k l' = (r : Result Ended Refusal) × (running.numbered r ≡ k) × running.Outcome n rows exits a l r l'

-- a run's slices, and one more for the exits
pub record Recording : Type 0 where
  pub run : Slices
  pub taken : List ℕ

abbrev pub recording : List ℤ → List ℕ → List ℤ → List ℕ → Recording
recording stack kinds values taken = record { run = slices stack kinds values; taken = taken }

-- a run's values
abbrev pub HistoryCall : ℕ → List ℕ → List ℕ → Asks → Recording → Numbers → Recording → Type 0
HistoryCall n rows exits a l k l' = (r : Result Ended Refusal) × (running.numbered r ≡ k) × Recorded n rows exits a l.run l.taken r l'.run l'.taken

-- one value more than a run's: the count of nodes never entered
abbrev pub VisitsCall : ℕ → List ℕ → List ℕ → Asks → visiting.Lends → Numbers → visiting.Lends → Type 0
VisitsCall n rows exits a l k l' = (r : Result Visited Refusal) × (visiting.numbered r ≡ k) × visiting.Outcome n rows exits a l r l'

-- nothing is lent besides the answer
abbrev pub ForeverCall : ℕ → List ℕ → List ℕ → Numbers → Unit {0} → Type 0
ForeverCall n rows exits k u = (r : Result Bool Refusal) × (always.numbered r ≡ k) × (always.numbered r ≡ always.answer n rows exits)

-- the values of an answer, and zeros after them up to so many cells
abbrev pub padded : ℕ → Numbers → Numbers
padded cells (numbers n values) = numbers n (values ++ replicate (cells - length values) 0)

-- a run's cells, and one for the count of regions
abbrev pub picture_cells : ℕ
picture_cells = running.result_cells + 1

-- the run's values and the count of regions (rule 8.5); or the place of an unknown pixel and zeros (rule 12.1)
abbrev pub PictureCall : Asked → Lends → Numbers → Lends → Type 0
PictureCall a l n l' = (r : Result Pictured Refusal) × (padded picture_cells (picturing.numbered r) ≡ n) × picturing.Outcome a l r l'

-- two values: the height and the width (rule 15.4)
abbrev pub ReadP6Call : List ℕ → List ℕ → Numbers → List ℕ → Type 0
ReadP6Call file pixels n pixels' = (r : Result Sides Refusal) × (reading.numbered r ≡ n) × reading.Outcome file pixels r pixels'

-- one value: how many bytes were written (rule 15.5)
abbrev pub WriteP6Call : List ℕ → ℕ → ℕ → List ℕ → Numbers → List ℕ → Type 0
WriteP6Call pixels height width file n file' = (r : Result ℕ Refusal) × (writing.numbered r ≡ n) × writing.Outcome pixels height width file r file'
