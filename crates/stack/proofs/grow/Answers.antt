-- `stack::grow` meets its contract. Assumes nothing.
use mir.Facts.{to_z-of_z}
use Rattle.stack.specs.Stack.{Grows}
use Rattle.stack.proofs.Cells.{push_full}
use Rattle.stack.proofs.grow.Goals as goal

pub returns-then-depth-stack : goal.returns-then-depth-stack
unfolding Grows
returns-then-depth-stack c = push_full _ _ _ c.if-depth-stack.true

pub returns : goal.returns
unfolding Grows
returns c = rw (to_z-of_z c.ranges.v) at c.push.ensures
