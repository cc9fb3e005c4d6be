-- `region::number::scan` meets its contract. The loop's invariant: the codels before i are numbered (`Numbering`). Assumes nothing.
use mathlib.Core.Path.{◌≡◌}
use lib.ListN.{length}
use Rattle.region.specs.Grid.{grid_at}
use Rattle.region.specs.Steps.{Numbered}
use Rattle.region.proofs.number.scan.Given as goal

abbrev pub invariant-loop-i : goal.invariant-loop-i
invariant-loop-i l = Numbered (grid_at l.grid) l.i l.found l.initial.map l.initial.work l.map l.work × (length l.map ≡ length l.initial.map) × (length l.work ≡ length l.initial.work)
