-- `piet::run_picture::first_colour` meets its contract.
-- Assumes nothing.
use mathlib.Core.Path.{◌∙◌, ap}
use Rattle.colour.specs.Classify.{colour_under}
use Rattle.piet.proofs.Seeing.{first_under}
use Rattle.piet.proofs.run_picture.first_colour.Goals as goal

pub returns : goal.returns
returns c =
    let the-args = c.args in
    let the-pre = c.requires in
    c.colour_under.ensures ∙ ap (colour_under the-args.setting) c.found_at-f.ensures ∙ first_under the-args.pixels.now the-args.setting the-pre
