-- The grid by the code's numbers is the picture's own, and slices that keep their lengths have its room. Assumes nothing.
use mathlib.Core.Path.{◌≡◌}
use mathlib.Core.List.{List}
use Prim.Native.Nat.{ℕ, ◌/◌, ◌%◌}
use native.Mathlib.Omega.{arith}
use lib.ListN.{length}
use Rattle.picture.specs.declared.grid.CodelGrid.{CodelGrid}
use Rattle.picture.specs.Codels.{picture_in}
use Rattle.picture.specs.Picture.{colour_at}
use Rattle.region.specs.Grid.{grid_of, grid_at}
use Rattle.region.specs.Room.{Room}

pub framed_grid : (g : CodelGrid) → grid_at g ≡ grid_of (picture_in g)
framed_grid g = λ i. record {
  rows = g.framed.rows_are i;
  cols = g.framed.cols_are i;
  colour = λ k. colour_at (picture_in g) (k / g.framed.cols_are i) (k % g.framed.cols_are i);
}

-- two slices of the same lengths have the room
pub room_kept : {g : CodelGrid} {m w m' w' : List ℕ} → Room g m w → length m' ≡ length m → length w' ≡ length w → Room g m' w'
room_kept r a b = record { map_room = omega (arith, r.map_room); work_room = omega (arith, r.work_room) }
