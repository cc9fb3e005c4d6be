-- The grid of codels of a picture (rule 2.2), and the steps between codels (rule 3.1).
-- A codel is given by its index, row by row: the codel in row r and column c has the index r x columns + c. Assumes nothing.
use Rattle.std.specs.Prelude.{◌≡◌, ℕ, zero, suc, ◌+◌, ◌*◌, ◌/◌, ◌%◌, ◌≤◌, ◌<◌}
use Rattle.picture.specs.declared.grid.CodelGrid.{CodelGrid}
use Rattle.picture.specs.Codels.{picture_in}
use Rattle.picture.specs.Picture.{Picture, rows_of, cols_of, colour_at, codel_colour}

pub record Grid : Type 0 where
  pub rows : ℕ
  pub cols : ℕ
  -- by a codel's index
  pub colour : ℕ → ℕ

-- how many codels the grid has
abbrev pub count : Grid → ℕ
count g = g.rows * g.cols

-- a picture's grid
abbrev pub grid_of : Picture → Grid
grid_of p = record { rows = rows_of p; cols = cols_of p; colour = λ i. codel_colour p i }

-- the same, by the numbers that the code carries
abbrev pub grid_at : CodelGrid → Grid
grid_at g = record { rows = g.shape.rows; cols = g.shape.cols; colour = λ i. colour_at (picture_in g) (i / g.shape.cols) (i % g.shape.cols) }

-- a step between codels: from i to j toward 0 it is one column right, toward 1 one row down, toward 2 one column left, toward
-- 3 one row up
unfoldable pub Toward : ℕ → ℕ → ℕ → ℕ → Type 0
Toward cols zero i j = (j / cols ≡ i / cols) × (j % cols ≡ i % cols + 1)
Toward cols (suc zero) i j = (j / cols ≡ i / cols + 1) × (j % cols ≡ i % cols)
Toward cols (suc (suc zero)) i j = (j / cols ≡ i / cols) × (j % cols + 1 ≡ i % cols)
Toward cols (suc (suc (suc zero))) i j = (j / cols + 1 ≡ i / cols) × (j % cols ≡ i % cols)
Toward cols (suc (suc (suc (suc d)))) i j = ⊥

-- i and j are codels of the grid, one step apart
pub record Adjacent (g : Grid) (i j : ℕ) : Type 0 where
  pub from : i < count g
  pub to : j < count g
  pub way : ℕ
  pub toward : Toward g.cols way i j

-- r is the codel of a grid that is one step from i, or the count of codels where there is none
pub record Neighbour (rows cols way i r : ℕ) : Type 0 where
  pub most : r ≤ rows * cols
  pub is : r < rows * cols → Toward cols way i r
  pub only : (j : ℕ) → j < rows * cols → Toward cols way i j → j ≡ r
