-- `piet_c::run_history::piet_history` meets its contract. Assumes nothing.
use mathlib.Core.Path.{refl}
use Rattle.piet_c.specs.Exported.{short, made}
use Rattle.piet_c.proofs.run_history.piet_history.Goals as goal

pub returns-then-answer-lt-RUN_ANSWER : goal.returns-then-answer-lt-RUN_ANSWER
returns-then-answer-lt-RUN_ANSWER c = short c.if-answer-lt-RUN_ANSWER.true refl refl refl

pub returns : goal.returns
returns c =
    let e = c.put_ran.ensures in
    made _ c.if-answer-lt-RUN_ANSWER.false (c.run_history-ran.result, refl, c.run_history-ran.ensures.recorded) e.0 e.1
