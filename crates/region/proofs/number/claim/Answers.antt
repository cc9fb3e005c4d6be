-- `region::number::claim` meets its contract: a codel with a number is passed, and another's region is explored. Assumes nothing.
use mathlib.Core.Path.{refl}
use Rattle.region.proofs.Numbering.{part_over}
use Rattle.region.proofs.number.claim.Goals as goal

pub returns-then-map-i-ne-MARK : goal.returns-then-map-i-ne-MARK
returns-then-map-i-ne-MARK c =
    let the-pre = c.requires in
    record { part = part_over the-pre.part c.if-map-i-ne-MARK.true; map_rest = refl; work_rest = refl }
