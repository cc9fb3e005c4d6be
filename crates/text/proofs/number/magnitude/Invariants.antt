-- `text::number::magnitude` meets its contract. The loop's invariant: what is left are digits, and their value after n is the
-- value of all.
-- Assumes nothing.
use Prim.Native.Nat.{◌≤◌}
use mathlib.Core.Bool.{true}
use mathlib.Core.Path.{◌≡◌}
use lib.ListN.{drop}
use Rattle.base.specs.Text.{all_digits, value_after}
use Rattle.text.proofs.number.magnitude.Given as goal

abbrev pub invariant-loop-b : goal.invariant-loop-b
invariant-loop-b l = (l.n ≤ l.limit) × (all_digits (drop l.b-index l.s) ≡ true) × (value_after 0 l.s ≡ value_after l.n (drop l.b-index l.s))
