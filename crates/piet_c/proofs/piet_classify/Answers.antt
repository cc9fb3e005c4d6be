-- `piet_c::piet_classify` meets its contract. Assumes nothing.
use mathlib.Core.List.{[], ◌∷◌}
use mathlib.Core.Path.{refl}
use Rattle.piet_c.specs.Exported.{short}
use Rattle.piet_c.proofs.Telling.{told}
use Rattle.piet_c.proofs.piet_classify.Goals as goal

pub returns-then-answer-lt2 : goal.returns-then-answer-lt2
returns-then-answer-lt2 c = short c.if-answer-lt2.true refl refl refl

pub returns-in-Ok : goal.returns-in-Ok
returns-in-Ok c =
    told 0 (0 ∷ 0 ∷ []) c.if-answer-lt2.false (c.classify.result, refl, c.classify.ensures) (rw c.in-Ok.is refl) c.put_two.ensures

pub returns-in-Err : goal.returns-in-Err
returns-in-Err c =
    told _ _ c.if-answer-lt2.false (c.classify.result, refl, c.classify.ensures) (rw (c.in-Err.is, c.refuse_at.ensures.0) refl) c.refuse_at.ensures.1
