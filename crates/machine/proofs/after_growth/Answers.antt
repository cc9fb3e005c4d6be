-- `machine::after_growth` meets its contract. Assumes nothing.
use mathlib.Core.Path.{refl}
use Rattle.machine.specs.Held.{grown_of}
use Rattle.machine.proofs.after_growth.Goals as goal

pub returns-in-Some : goal.returns-in-Some
unfolding grown_of
returns-in-Some c = rw c.in-Some.is refl

pub returns-in-None : goal.returns-in-None
unfolding grown_of
returns-in-None c = rw c.in-None.is refl
