-- `interpreter::endless::all_onward` meets its contract. The loop's invariant: the rows passed go onward. Assumes nothing.
use mathlib.Core.Bool.{true}
use mathlib.Core.Path.{◌≡◌}
use Rattle.interpreter.specs.Forever.{onward}
use Rattle.interpreter.specs.Table.{every}
use Rattle.interpreter.proofs.endless.all_onward.Given as goal

abbrev pub invariant-loop-i : goal.invariant-loop-i
invariant-loop-i l = every (onward l.table.rows.now l.table.exits.now) l.i ≡ true
