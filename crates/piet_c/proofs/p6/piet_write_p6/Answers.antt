-- `piet_c::p6::piet_write_p6` meets its contract. Assumes nothing.
use mathlib.Core.List.{[], ◌∷◌}
use mathlib.Core.Path.{refl}
use Rattle.piet_c.specs.Exported.{short}
use Rattle.piet_c.proofs.Telling.{told}
use Rattle.piet_c.proofs.p6.piet_write_p6.Goals as goal

pub returns-then-answer-lt1 : goal.returns-then-answer-lt1
returns-then-answer-lt1 c = short c.if-answer-lt1.true refl refl refl

pub returns-in-Ok : goal.returns-in-Ok
returns-in-Ok c =
    told 0 (c.in-Ok.length ∷ []) c.if-answer-lt1.false (c.write_p6.result, refl, c.write_p6.ensures) (rw c.in-Ok.is refl) c.put_one.ensures

pub returns-in-Err : goal.returns-in-Err
returns-in-Err c =
    told _ _ c.if-answer-lt1.false (c.write_p6.result, refl, c.write_p6.ensures) (rw (c.in-Err.is, c.refuse.ensures.0) refl) c.refuse.ensures.1
