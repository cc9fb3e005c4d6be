-- `report::put_values` meets its contract: before each turn the values above cell i are written.
-- Assumes nothing.
use Prim.Native.Nat.{◌-◌, ◌*◌, ◌≤◌}
use Rattle.stack.specs.Stack.{stack_of}
use Rattle.report.specs.Text.{values}
use Rattle.report.proofs.Partly.{Partly}
use Rattle.report.proofs.put_values.Given as goal

abbrev pub invariant-loop-i : goal.invariant-loop-i
invariant-loop-i l =
    (l.i ≤ l.depth) × Partly l.initial.out l.at (values (stack_of l.stack l.depth)) (values (stack_of l.stack l.i)) (21 * (l.depth - l.i)) l.next l.out
