-- `report::put_items` meets its contract: before each turn the first i outputs are written.
-- Assumes nothing.
use Prim.Native.Nat.{◌*◌, ◌≤◌}
use Rattle.machine.specs.Output.{outs_of}
use Rattle.report.specs.Text.{items}
use Rattle.report.specs.Wrote.{Wrote}
use Rattle.report.proofs.put_items.Given as goal

abbrev pub invariant-loop-i : goal.invariant-loop-i
invariant-loop-i l =
    (l.i ≤ l.count) × Wrote l.initial.out l.at (items (outs_of l.kinds l.numbers l.i)) l.next l.out (22 * l.i)
