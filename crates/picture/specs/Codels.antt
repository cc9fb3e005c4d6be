-- The picture that the code carries as a grid of codels. Assumes nothing.
use Rattle.picture.specs.declared.grid.CodelGrid.{CodelGrid}
use Rattle.picture.specs.Picture.{Picture, picture_of}

abbrev pub picture_in : CodelGrid → Picture
picture_in g = picture_of g.colours.now g.shape
