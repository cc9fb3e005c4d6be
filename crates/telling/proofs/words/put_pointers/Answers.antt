-- `telling::words::put_pointers` meets its contract: words and pointers one after the other.
-- Assumes nothing.
use native.Mathlib.Omega.{arith}
use Rattle.report.proofs.Writing.{wrote, wrote_then}
use Rattle.telling.specs.Words.{pointers_text}
use Rattle.telling.proofs.words.put_pointers.Goals as goal

pub returns : goal.returns
unfolding pointers_text
returns c =
    let h = c.requires.1 in
    let w₂ = wrote_then (wrote c.put_word-a.ensures 3 (omega arith)) c.put_dp-b.ensures (omega arith) in
    let w₃ = wrote_then w₂ (wrote c.put_word-c.ensures 5 (omega arith)) (omega arith) in
    wrote_then w₃ c.put_cc.ensures (omega arith)
