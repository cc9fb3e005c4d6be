-- `telling::outputs::put_widest` meets its contract: four bytes one after the other.
-- Assumes nothing.
use native.Mathlib.Omega.{arith}
use Rattle.report.proofs.Writing.{wrote_then}
use Rattle.telling.proofs.outputs.put_widest.Goals as goal

pub returns : goal.returns
returns c =
    let h = c.requires.1 in
    let w₂ = wrote_then c.put_byte-a.ensures c.put_tail-b.ensures (omega arith) in
    wrote_then (wrote_then w₂ c.put_tail-d.ensures (omega arith)) c.put_tail.ensures (omega arith)
