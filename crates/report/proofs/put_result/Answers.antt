-- `report::put_result` meets its contract: five lines one after the other, of at most 11,183 bytes.
-- Assumes nothing.
use native.Mathlib.Omega.{arith}
use Rattle.report.specs.Text.{result_text}
use Rattle.report.proofs.Writing.{wrote_then}
use Rattle.report.proofs.put_result.Goals as goal

pub returns : goal.returns
unfolding result_text
returns c =
    let h = c.requires in
    let w₂ = wrote_then c.put_line-a.ensures c.put_line-b.ensures (omega arith) in
    let w₃ = wrote_then w₂ c.put_place-c.ensures (omega arith) in
    let w₄ = wrote_then w₃ c.put_stack-d.ensures (omega arith) in
    (wrote_then w₄ c.put_out.ensures (omega arith)).put
