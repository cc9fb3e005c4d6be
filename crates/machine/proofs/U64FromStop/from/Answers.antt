-- `u64::from` of a `Stop` meets its contract. Assumes nothing.
use Rattle.machine.specs.Machine.{status_of}
use Rattle.machine.proofs.U64FromStop.from.Goals as goal

pub returns-in-Completed : goal.returns-in-Completed
unfolding status_of
returns-in-Completed c = rw c.in-Completed.is

pub returns-in-MaxSteps : goal.returns-in-MaxSteps
unfolding status_of
returns-in-MaxSteps c = rw c.in-MaxSteps.is

pub returns-in-NeedsInput : goal.returns-in-NeedsInput
unfolding status_of
returns-in-NeedsInput c = rw c.in-NeedsInput.is

pub returns-in-StackFull : goal.returns-in-StackFull
unfolding status_of
returns-in-StackFull c = rw c.in-StackFull.is

pub returns-in-OutputFull : goal.returns-in-OutputFull
unfolding status_of
returns-in-OutputFull c = rw c.in-OutputFull.is

pub returns-in-BadInput : goal.returns-in-BadInput
unfolding status_of
returns-in-BadInput c = rw c.in-BadInput.is
