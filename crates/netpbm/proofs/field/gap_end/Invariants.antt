-- `netpbm::field::gap_end` meets its contract: what stands after the gap is the same seen from the start and from every byte that was passed.
-- Assumes nothing.
use mathlib.Core.Bool.{false}
use mathlib.Core.Path.{◌≡◌}
use Prim.Native.Nat.{◌≤◌}
use lib.ListN.{length, drop}
use Rattle.netpbm.specs.Scan.{past_gap}
use Rattle.netpbm.proofs.field.gap_end.Given as goal

abbrev pub invariant-loop-i : goal.invariant-loop-i
invariant-loop-i l = (l.at ≤ l.i) × ((l.i ≤ length l.file) × (past_gap false (drop l.at l.file) ≡ past_gap l.inside (drop l.i l.file)))
