-- The rows of the regions (rule 7.2). Assumes nothing.
use Rattle.std.specs.Prelude.{◌≡◌, ◌≢◌, List, ℕ, ◌*◌, ◌/◌, ◌%◌, ◌≤◌, ◌<◌, get_or}
use Rattle.table.specs.Layout.{RowNumbers, row_at, blank}
use Rattle.region.specs.Grid.{Grid, count}
use Rattle.region.specs.Tally.{tally}

-- codel i is the first, of the codels below n, that has the number r
pub record First (m : List ℕ) (n r i : ℕ) : Type 0 where
  pub inside : i < n
  pub has : get_or m i 0 ≡ r
  pub none : (j : ℕ) → j < i → get_or m j 0 ≢ r

-- x has the colour, the size and the first pixel of region r, where the map's codels below n are counted. The size is in codels
-- (rule 3.3), the first pixel in pixels (rule 3.4)
pub record Row (g : Grid) (codel n : ℕ) (m : List ℕ) (r : ℕ) (x : RowNumbers) : Type 0 where
  pub first : ℕ
  pub is_first : First m n r first
  pub colour : x.colour ≡ g.colour first
  pub size : x.size ≡ tally r n m
  pub row : x.row ≡ first / g.cols * codel
  pub column : x.column ≡ first % g.cols * codel

-- a row for each of the n regions, no node being known yet; the rows past them are 0 (rule 7.4)
pub record IsTable (g : Grid) (codel n : ℕ) (m t : List ℕ) : Type 0 where
  pub rows : (r : ℕ) → r < n → Row g codel (count g) m r (row_at t r)
  pub unmarked : (r : ℕ) → r < n → (row_at t r).mark ≡ 0
  pub rest : (r : ℕ) → n ≤ r → r < count g → row_at t r ≡ blank
