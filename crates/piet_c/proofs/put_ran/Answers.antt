-- `piet_c::put_ran` meets its contract. Assumes nothing.
use mathlib.Core.Path.{refl}
use Rattle.interpreter.specs.Outcome.{numbered}
use Rattle.piet_c.proofs.put_ran.Goals as goal

pub returns-in-Ok : goal.returns-in-Ok
unfolding numbered
returns-in-Ok c = rw c.in-Ok.is (refl, c.put_ended.ensures)

pub returns-in-Err : goal.returns-in-Err
unfolding numbered
returns-in-Err c = rw c.in-Err.is c.refuse.ensures
