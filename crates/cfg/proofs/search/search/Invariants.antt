-- `cfg::search::search` meets its contract: the loop's invariant is `Searching`; the measure: the codels less the regions taken.
-- Assumes nothing.
use Prim.Native.Nat.{◌-◌}
use Rattle.cfg.proofs.Searching.{Searching}
use Rattle.picture.specs.Codels.{picture_in}
use Rattle.picture.specs.Picture.{codels}
use Rattle.cfg.proofs.search.search.Given as goal

abbrev pub invariant-loop-head : goal.invariant-loop-head
invariant-loop-head l = Searching l.edition (picture_in l.grid) l.map l.initial.rows l.initial.exits l.initial.work l.head l.rows l.exits l.work l.tail

abbrev pub decreases-loop-head : goal.decreases-loop-head
decreases-loop-head l = codels (picture_in l.grid) - l.head
