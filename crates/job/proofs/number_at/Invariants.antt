-- `job::number_at` meets its contract. The loop's invariant: the number is in the bytes from i on.
-- Assumes nothing.
use Prim.Native.Nat.{◌+◌, ◌-◌, ◌≤◌}
use Rattle.job.specs.Reading.{Field}
use Rattle.job.proofs.number_at.Given as goal

abbrev pub invariant-loop-i : goal.invariant-loop-i
invariant-loop-i l = (l.i ≤ l.k) × Field l.job (l.at + l.i) (l.k - l.i) l.n
