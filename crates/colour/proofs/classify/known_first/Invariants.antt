-- `colour::classify::known_first` meets its contract: the pixels before i are known, so the first unknown one is not before i.
-- Assumes nothing.
use Prim.Native.Nat.{◌≤◌, ◌-◌}
use Rattle.colour.specs.Classify.{found, known_first}
use Rattle.colour.proofs.classify.known_first.Given as goal

abbrev pub invariant-loop-i : goal.invariant-loop-i
invariant-loop-i l = (l.i ≤ l.n) × (l.i ≤ known_first (found l.pixels))

abbrev pub decreases-loop-i : goal.decreases-loop-i
decreases-loop-i l = l.n - l.i
