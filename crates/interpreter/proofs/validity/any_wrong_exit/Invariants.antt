use mathlib.Core.Bool.{false}
use mathlib.Core.Path.{◌≡◌}
use lib.ListN.{get_or}
use Rattle.interpreter.specs.Table.{any, wrong_exit}
use Rattle.interpreter.proofs.validity.any_wrong_exit.Given as goal

-- `interpreter::validity::any_wrong_exit` meets its contract. The loop's invariant: none of the exits passed is wrong. Assumes nothing.
abbrev pub invariant-loop-i : goal.invariant-loop-i
invariant-loop-i l = any (λ k. wrong_exit l.largest l.n (get_or l.exits k 0)) l.i ≡ false
