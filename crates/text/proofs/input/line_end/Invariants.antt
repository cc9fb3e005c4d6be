-- `text::input::line_end` meets its contract. The loop's invariant: the line that begins at `at` ends where the line from `i` on ends.
-- Assumes nothing.
use Prim.Native.Nat.{◌+◌}
use mathlib.Core.Path.{◌≡◌}
use lib.ListN.{drop}
use Rattle.text.specs.Line.{line_length}
use Rattle.text.proofs.input.line_end.Given as goal

abbrev pub invariant-loop-i : goal.invariant-loop-i
invariant-loop-i l = l.at + line_length (drop l.at l.input) ≡ l.i + line_length (drop l.i l.input)
