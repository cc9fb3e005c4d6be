-- `replay_traces::print_trace` may print the part of its buffer that the trace takes. Assumes nothing.
use mathlib.Core.Path.{sym}
use Prim.Native.Nat.{ℕ}
use lib.Seq.{length-take-le}
use Rattle.std.proofs.lemmas.List.{length-replicate}
use Rattle.answer.proofs.Answering.{answer_within}
use Rattle.replay_traces.proofs.print_trace.Goals as goal

pub slice_bounds-trace-end : goal.slice_bounds-trace-end
slice_bounds-trace-end g c = sym (length-replicate {0} {A = ℕ} 524288 0)

pub slice_bounds-text-end : goal.slice_bounds-text-end
slice_bounds-text-end g c = answer_within c.trace-k.ensures

pub slice_bounds-write_all-end : goal.slice_bounds-write_all-end
slice_bounds-write_all-end g c = sym (length-take-le _ _ (answer_within c.trace-k.ensures))
