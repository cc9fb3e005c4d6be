-- `colour::stretch::repeats` meets its contract: it says of the bytes before j whether they stand three places before too.
-- Assumes nothing.
use Prim.Native.Nat.{◌*◌}
use Rattle.base.specs.Decides.{Decides}
use Rattle.colour.specs.Stretch.{RepeatedBytes}
use Rattle.colour.proofs.stretch.repeats.Given as goal

abbrev pub invariant-loop-j : goal.invariant-loop-j
invariant-loop-j l = Decides (RepeatedBytes l.pixels (3 * l.from) l.j) l.same
