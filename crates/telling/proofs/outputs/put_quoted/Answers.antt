-- `telling::outputs::put_quoted` meets its contract: a character between two quotes.
-- Assumes nothing.
use native.Mathlib.Omega.{arith}
use Rattle.report.proofs.Writing.{wrote, wrote_then}
use Rattle.telling.proofs.outputs.put_quoted.Goals as goal

pub returns : goal.returns
returns c =
    let h = c.requires.1 in
    let w₂ = wrote_then (wrote c.put_word-a.ensures 2 (omega arith)) c.put_scalar-b.ensures (omega arith) in
    wrote_then w₂ (wrote c.put_word.ensures 1 (omega arith)) (omega arith)
