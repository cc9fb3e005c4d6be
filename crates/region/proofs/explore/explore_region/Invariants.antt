-- `region::explore::explore_region` meets its contract. The loop's invariant is `Flooding` (`Filling`), and the measure the codels less
-- the queue's head. Assumes nothing.
use Prim.Native.Nat.{◌-◌, ◌*◌}
use Rattle.region.specs.Grid.{grid_at}
use Rattle.region.proofs.Filling.{Flooding}
use Rattle.region.proofs.explore.explore_region.Given as goal

abbrev pub invariant-loop-head : goal.invariant-loop-head
invariant-loop-head l =
    Flooding (grid_at l.grid) l.seed l.number l.initial.map l.initial.work l.head l.map l.work l.tail

abbrev pub decreases-loop-head : goal.decreases-loop-head
decreases-loop-head l = l.grid.shape.rows * l.grid.shape.cols - l.head
