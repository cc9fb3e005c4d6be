-- `machine::Skips::after` meets its contract. Assumes nothing.
use mathlib.Core.Path.{refl}
use Rattle.machine.specs.Counts.{counted}
use Rattle.machine.proofs.Skips.after.Goals as goal

pub returns-in-Push : goal.returns-in-Push
unfolding counted
returns-in-Push c = rw c.in-Push.is refl

pub returns-in-Skip : goal.returns-in-Skip
unfolding counted
returns-in-Skip c = rw c.in-Skip.is c.one_more.ensures

pub returns-in-BadInput : goal.returns-in-BadInput
unfolding counted
returns-in-BadInput c = rw c.in-BadInput.is refl
