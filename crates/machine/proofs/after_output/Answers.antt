-- `machine::after_output` meets its contract. Assumes nothing.
use mathlib.Core.Path.{refl}
use Rattle.machine.specs.Held.{wrote_of}
use Rattle.machine.proofs.after_output.Goals as goal

pub returns-in-Some : goal.returns-in-Some
unfolding wrote_of
returns-in-Some c = rw c.in-Some.is refl

pub returns-in-None : goal.returns-in-None
unfolding wrote_of
returns-in-None c = rw c.in-None.is refl
