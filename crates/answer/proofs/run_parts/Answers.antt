-- `answer::run_parts` meets its contract, which is that of `run_picture` for the job's own parts.
-- Assumes nothing.
use Rattle.answer.proofs.run_parts.Goals as goal

pub returns : goal.returns
returns c = c.run_picture.ensures
