-- `interpreter::validity::any_wrong_mark` meets its contract. The loop's invariant: none of the marks passed is above 1. Assumes nothing.
use mathlib.Core.Bool.{false}
use mathlib.Core.Path.{◌≡◌}
use Rattle.interpreter.specs.Table.{any, wrong_mark}
use Rattle.interpreter.proofs.validity.any_wrong_mark.Given as goal

abbrev pub invariant-loop-i : goal.invariant-loop-i
invariant-loop-i l = any (wrong_mark l.rows) l.i ≡ false
