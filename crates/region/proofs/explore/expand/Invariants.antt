-- `region::explore::expand` meets its contract. The loop's invariant: the ways below `way` are visited (`Spreading`). Assumes nothing.
use Rattle.region.specs.Grid.{grid_at}
use Rattle.region.specs.Steps.{Spread}
use Rattle.region.proofs.explore.expand.Given as goal

abbrev pub invariant-loop-way : goal.invariant-loop-way
invariant-loop-way l = Spread (grid_at l.grid) l.number l.i l.way l.initial.map l.initial.work l.tail l.map l.work l.end
