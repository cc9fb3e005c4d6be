-- `stack::push` meets its contract. Assumes nothing.
use native.Mathlib.Numerals.{add-one}
use mir.Facts.{to_z-of_z}
use Rattle.stack.proofs.Cells.{pushes}
use Rattle.stack.proofs.push.Goals as goal

pub returns : goal.returns
returns c = rw (add-one, to_z-of_z c.ranges.v) (pushes _ _ _ c.requires.lies c.requires.depth_in_bounds)
