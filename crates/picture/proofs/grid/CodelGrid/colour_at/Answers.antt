-- `picture::grid::CodelGrid::colour_at` meets its contract: the corner of a codel of the grid is inside the picture. Assumes nothing.
use mathlib.Core.Path.{◌∙◌, ap}
use Rattle.std.specs.Prelude.{unwrap_or}
use Rattle.picture.proofs.Reading.{there}
use Rattle.picture.proofs.grid.CodelGrid.colour_at.Goals as goal

pub returns : goal.returns
returns c =
    c.unwrap_or.ensures ∙ ap (λ o. unwrap_or o 18) (c.read_pixel.ensures ∙ there c.args.self.framed.sound c.args.row c.args.col c.requires)
