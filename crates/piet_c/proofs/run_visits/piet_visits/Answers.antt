-- `piet_c::run_visits::piet_visits` meets its contract. Assumes nothing.
use mathlib.Core.Path.{refl}
use Rattle.piet_c.specs.Exported.{short, made}
use Rattle.piet_c.proofs.run_visits.piet_visits.Goals as goal

pub returns-then-answer-lt-VISITS_ANSWER : goal.returns-then-answer-lt-VISITS_ANSWER
returns-then-answer-lt-VISITS_ANSWER c = short c.if-answer-lt-VISITS_ANSWER.true refl refl refl

pub returns : goal.returns
returns c =
    let e = c.put_visited.ensures in
    made _ c.if-answer-lt-VISITS_ANSWER.false (c.run_visits-visited.result, refl, c.run_visits-visited.ensures.outcome) e.0 e.1
