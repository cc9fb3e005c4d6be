-- `report::put_stack` meets its contract: the word with the count, the values and a newline one after the other.
-- Assumes nothing.
use Prim.Native.Nat.{◌+◌, ◌*◌}
use native.Mathlib.Omega.{arith}
use Rattle.stack.proofs.Cells.{stack_of_length}
use Rattle.report.specs.Text.{stack_line}
use Rattle.report.proofs.Writing.{widen, wrote_line}
use Rattle.report.proofs.put_stack.Goals as goal

pub returns : goal.returns
unfolding stack_line
returns c =
    let n = c.args.depth in
    let h = c.requires.1 in
    rw (stack_of_length c.args.stack.now n)
    (widen (wrote_line c.put_count-a.ensures c.put_values-b.ensures c.put_word.ensures (omega arith)) (21 * n + 27) (omega arith))
