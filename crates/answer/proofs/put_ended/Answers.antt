-- `answer::put_ended` meets its contract: the numbers of the end, with the label of its region.
-- Assumes nothing.
use mathlib.Core.Path.{sym}
use lib.Seq.{length-take-le}
use Rattle.answer.proofs.Labelling.{part_fits}
use Rattle.answer.proofs.put_ended.Goals as goal

pub slice_bounds-put_result-end : goal.slice_bounds-put_result-end
slice_bounds-put_result-end c = sym (length-take-le _ _ c.label_region-n.ensures.0.within)

pub put_result-requires : goal.put_result-requires
put_result-requires c = part_fits c.label_region-n.ensures.0 c.label_region-n.ensures.1 c.requires.fits

pub returns : goal.returns
returns c =
    rw (c.from.ensures, c.label_region-n.ensures.0.is) at c.put_result.ensures
