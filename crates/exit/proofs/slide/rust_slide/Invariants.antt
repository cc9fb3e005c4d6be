-- `exit::slide::rust_slide` meets its contract. The invariant: however the slide goes on, so the whole slide ends (`Sliding`).
-- The measure: the turns left, each worth more than any room ahead, and the room ahead. Assumes nothing.
use Rattle.picture.specs.Codels.{picture_in}
use Rattle.exit.proofs.Sliding.{Sliding, measure}
use Rattle.exit.proofs.slide.rust_slide.Given as goal

abbrev pub invariant-slide : goal.invariant-slide
invariant-slide l =
    Sliding (picture_in l.grid) l.row l.col l.initial.state l.at_row l.at_col l.state l.turns

abbrev pub decreases-slide : goal.decreases-slide
decreases-slide l =
    measure (picture_in l.grid) l.at_row l.at_col l.state l.turns
