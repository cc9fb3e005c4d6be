-- `shade::put_visits` meets its contract: what the counted run answers is printed.
-- Assumes nothing.
use mathlib.Core.Path.{◌≡◌, subst}
use Rattle.std.specs.Prelude.{Result}
use Rattle.base.specs.declared.refusal.Refusal.{Refusal}
use Rattle.visits.specs.declared.Visited.{Visited}
use Rattle.visits.specs.Outcome as visiting
use Rattle.job.specs.Encoding.{Content}
use Rattle.job.specs.Outcome.{content_of}
use Rattle.answer.specs.Program.{asked_of}
use Rattle.shade.proofs.Visiting.{fresh, printable, shows_counts, shows_refusal}
use Rattle.shade.proofs.put_visits.Goals as goal

pub put_picture-requires : goal.put_picture-requires
put_picture-requires c =
    let h = c.requires in
    rw c.run_visits-visited.auto.visits (printable h.2 _ h.0)

pub returns-in-Ok : goal.returns-in-Ok
returns-in-Ok c =
    let content : Content = content_of c.args.job.now c.args.p in
    let lent_after : visiting.Lends =
    let z = c.run_visits-visited.new in
    visiting.lends z.stack z.kinds z.values z.visits z.unvisited in
    let answered : (r : Result Visited Refusal) → c.run_visits-visited.result ≡ r → visiting.Outcome c.args.regions c.args.rows.now c.args.exits.now (asked_of content).asks fresh r lent_after = λ r e. subst (λ (x : Result Visited Refusal). visiting.Outcome c.args.regions c.args.rows.now c.args.exits.now (asked_of content).asks fresh x lent_after) e
    c.run_visits-visited.ensures.outcome in
    shows_counts c.requires.2 (answered _ c.in-Ok.is) c.put_picture.ensures

pub returns-in-Err : goal.returns-in-Err
returns-in-Err c =
    let content : Content = content_of c.args.job.now c.args.p in
    let lent_after : visiting.Lends =
    let z = c.run_visits-visited.new in
    visiting.lends z.stack z.kinds z.values z.visits z.unvisited in
    let answered : (r : Result Visited Refusal) → c.run_visits-visited.result ≡ r → visiting.Outcome c.args.regions c.args.rows.now c.args.exits.now (asked_of content).asks fresh r lent_after = λ r e. subst (λ (x : Result Visited Refusal). visiting.Outcome c.args.regions c.args.rows.now c.args.exits.now (asked_of content).asks fresh x lent_after) e
    c.run_visits-visited.ensures.outcome in
    shows_refusal c.requires.2 (answered _ c.in-Err.is) (rw c.number.ensures at c.put_refusal.ensures)
