-- `telling::outputs::put_outputs` meets its contract: before each turn the first i outputs are written.
-- Assumes nothing.
use Prim.Native.Nat.{◌*◌, ◌≤◌}
use Rattle.machine.specs.Output.{outs_of}
use Rattle.report.specs.Wrote.{Wrote}
use Rattle.telling.specs.Outputs.{output_text}
use Rattle.telling.proofs.outputs.put_outputs.Given as goal

abbrev pub invariant-loop-i : goal.invariant-loop-i
invariant-loop-i l =
    (l.i ≤ l.count) × Wrote l.initial.out l.at (output_text (outs_of l.kinds l.values l.i)) l.next l.out (20 * l.i)
