-- `shade::put_counts` meets its contract: before each turn the first i codels are written.
-- Assumes nothing.
use Prim.Native.Nat.{◌*◌, ◌≤◌}
use Rattle.report.specs.Wrote.{Wrote}
use Rattle.shade.specs.Counted.{cells_text}
use Rattle.shade.proofs.put_counts.Given as goal

abbrev pub invariant-loop-i : goal.invariant-loop-i
invariant-loop-i l = (l.i ≤ l.codels) × Wrote l.initial.out 0 (cells_text l.map l.visits l.cols l.i) l.next l.out (21 * l.i)
