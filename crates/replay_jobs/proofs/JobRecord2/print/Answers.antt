-- `replay_jobs::JobRecord2::print` may print the part of its buffer that the answer takes. Assumes nothing.
use mathlib.Core.Path.{sym}
use lib.Seq.{length-take-le}
use Rattle.answer.proofs.Answering.{answer_within}
use Rattle.replay_jobs.proofs.JobRecord2.print.Goals as goal

pub slice_bounds-text-end : goal.slice_bounds-text-end
slice_bounds-text-end g c = answer_within c.answer-k.ensures

pub slice_bounds-write_all-end : goal.slice_bounds-write_all-end
slice_bounds-write_all-end g c = sym (length-take-le _ _ (answer_within c.answer-k.ensures))
