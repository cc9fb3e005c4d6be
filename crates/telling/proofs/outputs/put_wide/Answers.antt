-- `telling::outputs::put_wide` meets its contract: three bytes one after the other.
-- Assumes nothing.
use native.Mathlib.Omega.{arith}
use Rattle.report.proofs.Writing.{wrote_then}
use Rattle.telling.proofs.outputs.put_wide.Goals as goal

pub returns : goal.returns
returns c =
    let h = c.requires.1 in
    wrote_then (wrote_then c.put_byte-a.ensures c.put_tail-b.ensures (omega arith)) c.put_tail.ensures (omega arith)
