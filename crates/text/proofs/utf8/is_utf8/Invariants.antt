-- `text::utf8::is_utf8` meets its contract. The loop's invariant: the bytes are valid exactly when those from `i` on are.
-- Assumes nothing.
use Prim.Native.Nat.{◌-◌, ◌≤◌}
use mathlib.Core.Logic.{◌↔◌}
use lib.ListN.{length, drop}
use Rattle.text.specs.Utf8.{Valid}
use Rattle.text.proofs.utf8.is_utf8.Given as goal

abbrev pub invariant-loop-i : goal.invariant-loop-i
invariant-loop-i l = (l.i ≤ length l.line) × (Valid l.line ↔ Valid (drop l.i l.line))

abbrev pub decreases-loop-i : goal.decreases-loop-i
decreases-loop-i l = length l.line - l.i
