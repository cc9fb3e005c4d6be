-- `stack::put` meets its contract. Assumes nothing.
use mir.Facts.{to_z-of_z}
use Rattle.stack.proofs.Cells.{puts_at}
use Rattle.stack.proofs.put.Goals as goal

pub returns : goal.returns
returns c = rw (to_z-of_z c.ranges.v) (puts_at _ _ _ c.requires.depth_nonzero c.requires.lies)
