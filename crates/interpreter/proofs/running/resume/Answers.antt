-- `interpreter::running::resume` meets its contract. There are no cells to observe it in. Assumes nothing.
use mathlib.Core.Path.{refl}
use native.Mathlib.Omega.{arith}
use Rattle.interpreter.proofs.running.resume.Goals as goal

pub slice_bounds-resume_observed-end : goal.slice_bounds-resume_observed-end
slice_bounds-resume_observed-end c = refl

pub slice_bounds-resume_observed-end-2 : goal.slice_bounds-resume_observed-end-2
slice_bounds-resume_observed-end-2 c = refl

pub resume_observed-requires : goal.resume_observed-requires
resume_observed-requires c =
    record {
      placed = c.requires.placed;
      judged_in = c.requires.judged_in;
      can_count = λ r h k. absurd (omega arith);
    }

pub returns : goal.returns
returns c = c.resume_observed.ensures.resumed
