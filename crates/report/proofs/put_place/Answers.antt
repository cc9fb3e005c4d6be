-- `report::put_place` meets its contract: its words and numbers one after the other.
-- Assumes nothing.
use Prim.Native.Nat.{◌+◌}
use native.Mathlib.Omega.{arith}
use native.Mathlib.Nat.{le_refl}
use lib.ListN.{length}
use Rattle.report.specs.Text.{place_line}
use Rattle.report.proofs.Writing.{wrote, widen, wrote_then}
use Rattle.report.proofs.put_place.Goals as goal

pub returns : goal.returns
unfolding place_line
returns c =
    let n = length c.args.label.now in
    let h = c.requires in
    let w₂ = wrote_then (wrote c.put_word-a.ensures 3 (omega arith)) (wrote c.put_word-b.ensures n (le_refl n)) (omega arith) in
    let w₃ = wrote_then w₂ c.put_count-c.ensures (omega arith) in
    widen (wrote_then w₃ c.put_line.ensures (omega arith)) (n + 46) (omega arith)
