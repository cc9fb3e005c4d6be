-- `base::fill::fill` meets its contract: what is written so far is a run of the value.
-- Assumes nothing.
use Rattle.std.proofs.Common.{◌≡◌}
use Rattle.base.specs.Lent.{filled}
use Rattle.base.proofs.fill.fill.Given as goal

abbrev pub invariant-loop-cell : goal.invariant-loop-cell
invariant-loop-cell g l = l.cell-items ≡ filled 0 l.cell-index l.v l.initial.cell-items
