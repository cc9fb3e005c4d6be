-- `report::put_out` meets its contract: the word with the count, the outputs and a newline one after the other.
-- Assumes nothing.
use Prim.Native.Nat.{◌+◌, ◌*◌}
use native.Mathlib.Omega.{arith}
use Rattle.machine.proofs.Emitting.{outs_length}
use Rattle.report.specs.Text.{out_line}
use Rattle.report.proofs.Writing.{widen, wrote_line}
use Rattle.report.proofs.put_out.Goals as goal

pub returns : goal.returns
unfolding out_line
returns c =
    let n = c.args.count in
    let h = c.requires.1 in
    rw (outs_length c.args.kinds.now c.args.numbers.now n)
    (widen (wrote_line c.put_count-a.ensures c.put_items-b.ensures c.put_word.ensures (omega arith)) (22 * n + 25) (omega arith))
