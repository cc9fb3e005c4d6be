-- `machine::output::put_out` meets its contract. Assumes nothing.
use native.Mathlib.Omega.{arith}
use mir.Facts.{to_z-of_z}
use Rattle.machine.specs.Output.{Puts}
use Rattle.machine.proofs.Emitting.{top_is, no_cell, kept}
use Rattle.machine.proofs.output.put_out.Goals as goal

pub returns-then-n-kinds : goal.returns-then-n-kinds
unfolding Puts
returns-then-n-kinds c = no_cell _ _ _ _ _ _ (omega arith) (omega arith)

pub returns-then-n-values : goal.returns-then-n-values
unfolding Puts
returns-then-n-values c = no_cell _ _ _ _ _ _ (omega arith) (omega arith)

pub returns : goal.returns
unfolding Puts
returns c =
    kept _ (top_is _ c.args.stack.now c.args.depth c.requires.depth_nonzero) c.pop.ensures
    (rw (to_z-of_z c.ranges.v) at c.emit-m.ensures)
