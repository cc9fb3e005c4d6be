-- `piet_c::run_picture::piet_run_picture` meets its contract. Assumes nothing.
use mathlib.Core.Path.{refl}
use Rattle.piet_c.specs.Exported.{short, made}
use Rattle.piet_c.proofs.run_picture.piet_run_picture.Goals as goal

pub returns-then-answer-lt-PICTURE_ANSWER : goal.returns-then-answer-lt-PICTURE_ANSWER
returns-then-answer-lt-PICTURE_ANSWER c = short c.if-answer-lt-PICTURE_ANSWER.true refl refl refl

pub returns : goal.returns
returns c =
    let e = c.put_pictured.ensures in
    made _ c.if-answer-lt-PICTURE_ANSWER.false (c.run_picture-ran.result, refl, c.run_picture-ran.ensures) e.0 e.1
