-- `telling::line::put_left` meets its contract: its parts one after the other.
-- Assumes nothing.
use native.Mathlib.Omega.{arith}
use Rattle.report.proofs.Writing.{wrote, wrote_then}
use Rattle.telling.proofs.line.put_left.Goals as goal

pub returns : goal.returns
returns c =
    let h = c.requires.at_in_bounds in
    let w₂ = wrote_then (wrote c.put_word-a.ensures 3 (omega arith)) c.put_stack-b.ensures (omega arith) in
    let w₃ = wrote_then w₂ (wrote c.put_word-c.ensures 2 (omega arith)) (omega arith) in
    let w₄ = wrote_then w₃ c.put_pointers-d.ensures (omega arith) in
    let w₅ = wrote_then w₄ c.put_out-e.ensures (omega arith) in
    wrote_then w₅ (wrote c.put_word.ensures 1 (omega arith)) (omega arith)
