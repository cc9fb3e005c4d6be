-- `piet_c::run_picture::put_pictured` meets its contract. Assumes nothing.
use mathlib.Core.Path.{refl}
use Rattle.interpreter.specs.Outcome.{result_of}
use Rattle.piet_c.proofs.Telling.{next_put}
use Rattle.piet_c.proofs.run_picture.put_pictured.Goals as goal

pub returns-in-Ok : goal.returns-in-Ok
returns-in-Ok c =
    rw (c.in-Ok.is, c.put_ended.ensures) (refl, next_put (result_of c.in-Ok.pictured.ended) c.args.answer.now c.in-Ok.pictured.regions c.requires)

pub returns-in-Err : goal.returns-in-Err
returns-in-Err c = rw c.in-Err.is c.refuse_at.ensures
