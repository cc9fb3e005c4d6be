-- `telling::ending::put_stop` meets its contract: one text of six.
-- Assumes nothing.
use native.Mathlib.Omega.{arith}
use Rattle.report.proofs.Writing.{wrote}
use Rattle.telling.specs.Ending.{stop_text}
use Rattle.telling.proofs.ending.put_stop.Goals as goal

pub returns-in-Completed : goal.returns-in-Completed
unfolding stop_text
returns-in-Completed c =
    rw c.in-Completed.is (wrote c.put_word.ensures 53 (omega arith))

pub returns-in-MaxSteps : goal.returns-in-MaxSteps
unfolding stop_text
returns-in-MaxSteps c =
    rw c.in-MaxSteps.is (wrote c.put_word-in-MaxSteps.ensures 53 (omega arith))

pub returns-in-NeedsInput : goal.returns-in-NeedsInput
unfolding stop_text
returns-in-NeedsInput c =
    rw c.in-NeedsInput.is (wrote c.put_word-in-NeedsInput.ensures 53 (omega arith))

pub returns-in-StackFull : goal.returns-in-StackFull
unfolding stop_text
returns-in-StackFull c =
    rw c.in-StackFull.is (wrote c.put_word-in-StackFull.ensures 53 (omega arith))

pub returns-in-OutputFull : goal.returns-in-OutputFull
unfolding stop_text
returns-in-OutputFull c =
    rw c.in-OutputFull.is (wrote c.put_word-in-OutputFull.ensures 53 (omega arith))

pub returns-in-BadInput : goal.returns-in-BadInput
unfolding stop_text
returns-in-BadInput c =
    rw c.in-BadInput.is (wrote c.put_word-in-BadInput.ensures 53 (omega arith))
