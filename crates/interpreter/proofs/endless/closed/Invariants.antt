-- `interpreter::endless::closed` meets its contract. The loop's invariant: the exits passed are 0. Assumes nothing.
use mathlib.Core.Bool.{true}
use mathlib.Core.Path.{◌≡◌}
use lib.Dec.{eqb}
use lib.ListN.{get_or}
use Rattle.interpreter.specs.Table.{every}
use Rattle.table.specs.Layout.{exit_cell}
use Rattle.interpreter.proofs.endless.closed.Given as goal

abbrev pub invariant-loop-k : goal.invariant-loop-k
invariant-loop-k l = every (λ j. eqb (get_or l.exits (exit_cell l.region j) 0) 0) l.k ≡ true
