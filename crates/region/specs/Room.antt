-- What numbering the regions asks of the slices that it is lent. Assumes nothing.
use Rattle.std.specs.Prelude.{List, ℕ, ◌≤◌, length}
use Rattle.picture.specs.declared.grid.CodelGrid.{CodelGrid}
use Rattle.region.specs.Grid.{grid_at, count}

-- both slices have a cell for each codel
pub record Room (g : CodelGrid) (m w : List ℕ) : Type 0 where
  pub map_room : count (grid_at g) ≤ length m
  pub work_room : count (grid_at g) ≤ length w
