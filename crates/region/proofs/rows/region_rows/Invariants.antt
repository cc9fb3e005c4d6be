-- `region::rows::region_rows` meets its contract. The loop's invariant: the codels before i are counted (`Tabling`). Assumes nothing.
use Rattle.region.specs.Grid.{grid_at}
use Rattle.region.proofs.Tabling.{Counting}
use Rattle.region.proofs.rows.region_rows.Given as goal

abbrev pub invariant-loop-i : goal.invariant-loop-i
invariant-loop-i l = Counting (grid_at l.grid) l.grid.shape.codel l.i l.map l.initial.rows l.rows
