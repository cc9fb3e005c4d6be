-- `piet_c::piet_run` meets its contract. Assumes nothing.
use mathlib.Core.Path.{refl}
use Rattle.piet_c.specs.Exported.{short, made}
use Rattle.piet_c.proofs.piet_run.Goals as goal

pub returns-then-answer-lt-RUN_ANSWER : goal.returns-then-answer-lt-RUN_ANSWER
returns-then-answer-lt-RUN_ANSWER c = short c.if-answer-lt-RUN_ANSWER.true refl refl refl

pub returns : goal.returns
returns c =
    let e = c.put_ran.ensures in
    made _ c.if-answer-lt-RUN_ANSWER.false (c.run-ran.result, refl, c.run-ran.ensures.outcome) e.0 e.1
