-- `exit::leave::reach_of` meets its contract: an arm for each clause of `behind`. Assumes nothing.
use native.Mathlib.Omega.{arith}
use Rattle.exit.specs.Leaving.{behind}
use Rattle.exit.proofs.LeavingLaws.{behind_up}
use Rattle.exit.proofs.leave.reach_of.Goals as goal

pub returns-in-0 : goal.returns-in-0
unfolding behind
returns-in-0 c = rw c.in-0.is

pub returns-in-1 : goal.returns-in-1
unfolding behind
returns-in-1 c = rw c.in-1.is

pub returns-in-2 : goal.returns-in-2
unfolding behind
returns-in-2 c = rw c.in-2.is

pub returns-in_default : goal.returns-in_default
returns-in_default c = behind_up _ _ _ _ _ (λ h. omega (arith, h)) (λ h. omega (arith, h)) (λ h. omega (arith, h))
