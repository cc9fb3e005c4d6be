-- `exit::page_slide::walk` meets its contract. The invariant: however the slide goes on, so the whole slide ends, and the kept
-- station was not met since it was kept (`Watching`). The measure: the looks that are left of three for each station of the grid.
-- Assumes nothing.
use Prim.Native.Nat.{◌+◌, ◌*◌, ◌-◌}
use Rattle.picture.specs.Codels.{picture_in}
use Rattle.picture.specs.Picture.{codels}
use Rattle.exit.proofs.Watching.{Watching}
use Rattle.exit.proofs.page_slide.walk.Given as goal

abbrev pub invariant-slide : goal.invariant-slide
invariant-slide l =
    Watching (picture_in l.grid) l.row l.col l.initial.state l.at_row l.at_col l.state l.watch

abbrev pub decreases-slide : goal.decreases-slide
decreases-slide l =
    3 * (4 * codels (picture_in l.grid)) + 1 - l.watch.looks
