-- `cfg::search::way_number` meets its contract: an equation for each arm.
-- Assumes nothing.
use Rattle.picture.specs.Codels.{picture_in}
use Rattle.cfg.specs.Search.{way_number}
use Rattle.cfg.proofs.Trying.{step_number, glide_number}
use Rattle.cfg.proofs.search.way_number.Goals as goal

pub returns-in-Closed : goal.returns-in-Closed
unfolding way_number
returns-in-Closed c = rw c.in-Closed.is

pub returns-in-Astray : goal.returns-in-Astray
unfolding way_number
returns-in-Astray c = rw c.in-Astray.is c.lost_exit.ensures

pub returns-in-Step : goal.returns-in-Step
returns-in-Step c =
    let the-pre = c.requires in
    let the-args = c.args in
    let the-colour-at = c.colour_at-to in
    rw c.in-Step.is (step_number the-args.edition (picture_in c.args.grid) the-args.map.now the-args.from the-args.state _ _ c.args.grid.framed.cols_are _ _ _ _ c.exit_to.ensures c.decode_in-instruction.ensures the-colour-at.ensures)

pub returns-in-Glide : goal.returns-in-Glide
returns-in-Glide c =
    let the-pre = c.requires in
    let the-args = c.args in
    rw c.in-Glide.is (glide_number the-args.edition (picture_in c.args.grid) the-args.map.now the-args.from the-args.state _ _ c.args.grid.framed.cols_are _ _ _ _ _ _ c.exit_to-in-Glide.ensures c.number-new.ensures)
