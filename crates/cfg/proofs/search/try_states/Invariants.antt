-- `cfg::search::try_states` meets its contract: the loop's invariant: the states below `state` are settled (`Several`).
-- Assumes nothing.
use Rattle.picture.specs.Codels.{picture_in}
use Rattle.cfg.specs.Search.{Several}
use Rattle.cfg.proofs.search.try_states.Given as goal

abbrev pub invariant-loop-state : goal.invariant-loop-state
invariant-loop-state l = Several l.edition (picture_in l.grid) l.map l.r l.state l.initial.rows l.initial.exits l.initial.work l.tail l.rows l.exits l.work l.end
