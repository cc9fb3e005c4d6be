-- `trace::put_ended` meets its contract: the lines of the end, with the label of its region. Assumes nothing.
use mathlib.Core.Path.{sym}
use lib.Seq.{length-take-le}
use Rattle.trace.proofs.StepLaws.{part_brief}
use Rattle.trace.proofs.put_ended.Goals as goal

pub slice_bounds-put_end-end : goal.slice_bounds-put_end-end
slice_bounds-put_end-end c = sym (length-take-le _ _ c.label_region-named.ensures.0.within)

pub put_end-requires : goal.put_end-requires
put_end-requires c =
    let t = c.label_region-named.ensures in
    let p = c.requires in
    record {
      inside = p.inside;
      label_len_bound = ((part_brief _ t.0.within t.1, p.outputs_bound.0), p.outputs_bound.1);
    }

pub returns : goal.returns
returns c = rw c.label_region-named.ensures.0.is at c.put_end.ensures
