-- `text::white::last_start` meets its contract. The loop's invariant: what stands after `k` are continuation bytes.
-- Assumes nothing.
use Prim.Native.Nat.{ℕ, ◌<◌, ◌≤◌}
use lib.ListN.{get_or}
use Rattle.text.specs.Utf8.{IsTail}
use Rattle.text.proofs.white.last_start.Given as goal

abbrev pub invariant-loop-k : goal.invariant-loop-k
invariant-loop-k l = (l.k ≤ l.end) × ((j : ℕ) → l.k ≤ j → j < l.end → IsTail (get_or l.s j 0))
