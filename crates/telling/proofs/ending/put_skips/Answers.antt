-- `telling::ending::put_skips` meets its contract: four lines one after the other, each where its count is not 0.
-- Assumes nothing.
use native.Mathlib.Omega.{arith}
use Rattle.report.proofs.Writing.{widen, wrote_then}
use Rattle.telling.specs.Ending.{skips_text}
use Rattle.telling.proofs.ending.put_skips.Goals as goal

pub returns : goal.returns
unfolding skips_text
returns c =
    let h = c.requires in
    let w₂ = wrote_then c.put_unless_none-a.ensures c.put_unless_none-b.ensures (omega arith) in
    let w₃ = wrote_then w₂ c.put_unless_none-c.ensures (omega arith) in
    widen (wrote_then w₃ c.put_unless_none.ensures (omega arith)) 230 (omega arith)
