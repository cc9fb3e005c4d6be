-- `interpreter::stepping::open_exit` meets its contract. The loop's invariant: what is left of the attempts gives the exit taken. Assumes nothing.
use mathlib.Core.Path.{◌≡◌}
use Prim.Native.Nat.{◌-◌}
use Rattle.interpreter.specs.Table.{open_from, exit_of}
use Rattle.interpreter.proofs.stepping.open_exit.Given as goal

abbrev pub invariant-loop-k : goal.invariant-loop-k
invariant-loop-k l = open_from l.exits l.region l.p (8 - l.k) l.k ≡ exit_of l.exits l.region l.p
