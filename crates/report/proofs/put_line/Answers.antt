-- `report::put_line` meets its contract: a word with a number, and a newline.
-- Assumes nothing.
use Prim.Native.Nat.{◌+◌}
use native.Mathlib.Omega.{arith}
use lib.ListN.{length}
use Rattle.report.specs.Text.{line}
use Rattle.report.proofs.Writing.{wrote, widen, wrote_then}
use Rattle.report.proofs.put_line.Goals as goal

pub returns : goal.returns
unfolding line
returns c =
    let h = c.requires in
    widen (wrote_then c.put_count-next.ensures (wrote c.put_word.ensures 1 (omega arith)) (omega arith))
    (length c.args.word.now + 21) (omega arith)
