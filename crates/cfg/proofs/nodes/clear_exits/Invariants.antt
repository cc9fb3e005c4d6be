-- `cfg::nodes::clear_exits` meets its contract: the loop's invariant: the exits of the states below s are 0 (`Zeros`).
-- Assumes nothing.
use mathlib.Core.Path.{◌≡◌}
use lib.ListN.{length}
use Rattle.cfg.specs.Search.{Zeros}
use Rattle.cfg.proofs.nodes.clear_exits.Given as goal

abbrev pub invariant-loop-s : goal.invariant-loop-s
invariant-loop-s l = Zeros l.r l.s l.initial.exits l.exits × (length l.exits ≡ length l.initial.exits)
