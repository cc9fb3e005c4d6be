-- `telling::line::put_took` meets its contract: its parts one after the other.
-- Assumes nothing.
use native.Mathlib.Omega.{arith}
use Rattle.report.proofs.Writing.{wrote, wrote_then}
use Rattle.telling.proofs.line.put_took.Goals as goal

pub returns : goal.returns
returns c =
    let h = c.requires.1 in
    let w₂ = wrote_then c.put_block-a.ensures c.put_name-b.ensures (omega arith) in
    let w₃ = wrote_then w₂ (wrote c.put_word-c.ensures 1 (omega arith)) (omega arith) in
    wrote_then w₃ (wrote c.put_word.ensures 198 c.requires.0.1) (omega arith)
