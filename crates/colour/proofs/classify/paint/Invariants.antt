-- `colour::classify::paint` meets its contract: the first i colours are written, and the others are as they were.
-- Assumes nothing.
use mathlib.Core.Path.{◌≡◌}
use mathlib.Core.List.{◌++◌, map}
use Prim.Native.Nat.{◌≤◌, ◌-◌}
use lib.ListN.{length, take, drop}
use Rattle.colour.specs.Classify.{found, colour_under}
use Rattle.colour.proofs.classify.paint.Given as goal

abbrev pub invariant-loop-i : goal.invariant-loop-i
invariant-loop-i l =
    (l.i ≤ l.n) × ((length l.colours ≡ length l.initial.colours) × (l.colours ≡ take l.i (map (colour_under l.setting) (found l.pixels)) ++ drop l.i l.initial.colours))

abbrev pub decreases-loop-i : goal.decreases-loop-i
decreases-loop-i l = l.n - l.i
