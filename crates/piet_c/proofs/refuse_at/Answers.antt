-- `piet_c::refuse_at` meets its contract. Assumes nothing.
use Rattle.piet_c.proofs.Telling.{place_put}
use Rattle.piet_c.proofs.refuse_at.Goals as goal

pub returns : goal.returns
returns c = rw (← c.place-first.ensures) (c.refuse-number.ensures.0, place_put c.args.answer.now _ _ c.args.cells c.requires.0 c.refuse-number.ensures.1 c.put_two.ensures)
