-- `cfg::nodes::keep_nodes` meets its contract: the loop's invariant: the regions below r are kept or not (`Cleared`).
-- Assumes nothing.
use mathlib.Core.Path.{◌≡◌}
use lib.ListN.{length}
use Rattle.cfg.specs.Search.{Cleared}
use Rattle.cfg.proofs.nodes.keep_nodes.Given as goal

abbrev pub invariant-loop-r : goal.invariant-loop-r
invariant-loop-r l = Cleared l.r l.initial.rows l.initial.exits l.rows l.exits × (length l.rows ≡ length l.initial.rows) × (length l.exits ≡ length l.initial.exits)
