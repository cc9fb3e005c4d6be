-- `colour::classify::found_in` meets its contract: a pixel is three bytes in a row.
-- Assumes nothing.
use mathlib.Core.Path.{◌∙◌, sym}
use Rattle.colour.proofs.ClassifyLaws.{found_at}
use Rattle.colour.proofs.classify.found_in.Goals as goal

pub returns : goal.returns
returns c =
    c.colour_of.ensures ∙ sym (found_at c.args.pixels.now c.args.i c.requires.1)
