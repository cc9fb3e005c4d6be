-- `piet_c::refuse` meets its contract. Assumes nothing.
use mathlib.Core.Path.{◌∙◌}
use Rattle.base.proofs.Over.{filled_lent}
use Rattle.piet_c.proofs.refuse.Goals as goal

pub returns : goal.returns
returns c = (c.number.ensures, c.fill.ensures ∙ filled_lent c.args.answer.now c.args.cells 0)
