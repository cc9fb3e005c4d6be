-- `telling::ending::put_steps` meets its contract: its parts one after the other.
-- Assumes nothing.
use native.Mathlib.Omega.{arith}
use Rattle.report.proofs.Writing.{wrote, widen, wrote_then}
use Rattle.telling.proofs.ending.put_steps.Goals as goal

pub returns : goal.returns
returns c =
    let h = c.requires.1 in
    let w₂ = wrote_then c.put_count-a.ensures (wrote c.put_word-b.ensures 5 (omega arith)) (omega arith) in
    let w₃ = wrote_then w₂ (wrote c.put_word-c.ensures 22 c.requires.0) (omega arith) in
    widen (wrote_then w₃ (wrote c.put_word.ensures 2 (omega arith)) (omega arith)) 55 (omega arith)
