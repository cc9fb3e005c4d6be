-- `telling::ending::put_place` meets its contract: its parts one after the other.
-- Assumes nothing.
use native.Mathlib.Omega.{arith}
use Rattle.report.proofs.Writing.{wrote, wrote_then}
use Rattle.telling.specs.Ending.{place_text}
use Rattle.telling.proofs.ending.put_place.Goals as goal

pub returns : goal.returns
unfolding place_text
returns c =
    let h = c.requires.label_len_bound.1 in
    let w₂ = wrote_then c.put_steps-a.ensures c.put_pointers-b.ensures (omega arith) in
    let w₃ = wrote_then w₂ (wrote c.put_word-c.ensures 7 (omega arith)) (omega arith) in
    let w₄ = wrote_then w₃ c.put_stack-d.ensures (omega arith) in
    wrote_then w₄ (wrote c.put_word.ensures 1 (omega arith)) (omega arith)
