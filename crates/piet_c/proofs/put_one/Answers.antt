-- `piet_c::put_one` meets its contract. Assumes nothing.
use mathlib.Core.List.{[], ◌∷◌}
use Rattle.piet_c.proofs.Telling.{cells, cells_put}
use Rattle.piet_c.proofs.put_one.Goals as goal

pub returns : goal.returns
unfolding cells
returns c = cells_put (c.args.value ∷ []) _ c.requires
