-- `text::white::white_back` meets its contract. The loop's invariant: what stands from `e` on is white space at the back.
-- Assumes nothing.
use Prim.Native.Nat.{◌≤◌}
use lib.ListN.{length}
use Rattle.text.proofs.TrimLaws.{BackInv}
use Rattle.text.proofs.white.white_back.Given as goal

abbrev pub invariant-loop-e : goal.invariant-loop-e
invariant-loop-e l = (l.e ≤ length l.line) × BackInv l.line l.e

abbrev pub decreases-loop-e : goal.decreases-loop-e
decreases-loop-e l = l.e
