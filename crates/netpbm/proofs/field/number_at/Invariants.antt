-- `netpbm::field::number_at` meets its contract: what stands after the digits, and their value up to the cap, are the same seen from the start and from every byte that was passed.
-- Assumes nothing.
use mathlib.Core.Path.{◌≡◌}
use Prim.Native.Nat.{◌≤◌}
use lib.ListN.{length, drop}
use Rattle.netpbm.specs.Scan.{past_digits, value_of, capped}
use Rattle.netpbm.proofs.field.number_at.Given as goal

abbrev pub invariant-loop-i : goal.invariant-loop-i
invariant-loop-i l = (l.at ≤ l.i) × ((l.i ≤ length l.file) × ((l.value ≤ 1025) × ((past_digits (drop l.at l.file) ≡ past_digits (drop l.i l.file)) × (capped (value_of 0 (drop l.at l.file)) ≡ capped (value_of l.value (drop l.i l.file))))))
