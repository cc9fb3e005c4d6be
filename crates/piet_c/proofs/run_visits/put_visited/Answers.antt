-- `piet_c::run_visits::put_visited` meets its contract. Assumes nothing.
use mathlib.Core.Path.{refl}
use Rattle.interpreter.specs.Outcome.{result_of}
use Rattle.visits.specs.Outcome.{numbered}
use Rattle.piet_c.proofs.Telling.{next_put}
use Rattle.piet_c.proofs.run_visits.put_visited.Goals as goal

pub returns-in-Ok : goal.returns-in-Ok
unfolding numbered
returns-in-Ok c =
    rw (c.in-Ok.is, c.put_ended.ensures) (refl, next_put (result_of c.in-Ok.visited.ended) c.args.answer.now c.in-Ok.visited.unvisited c.requires)

pub returns-in-Err : goal.returns-in-Err
unfolding numbered
returns-in-Err c = rw c.in-Err.is c.refuse.ensures
