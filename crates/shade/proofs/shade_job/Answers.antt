-- `shade::shade_job` meets its contract: a refusal is printed, and else what was counted over the table that was built.
-- Assumes nothing.
use mathlib.Core.Path.{◌≡◌, sym, subst}
use Rattle.std.specs.Prelude.{Result}
use Rattle.base.specs.declared.refusal.Refusal.{Refusal}
use Rattle.piet.specs.declared.run_picture.Pictured.{Pictured}
use Rattle.piet.specs.RunPicture as running
use Rattle.piet.specs.RunPicture.{Lends, lends}
use Rattle.job.specs.Encoding.{Content}
use Rattle.job.specs.declared.Parts.{Parts}
use Rattle.job.specs.Outcome.{LaidOut, content_of}
use Rattle.answer.specs.Program.{asked_of, ran}
use Rattle.answer.proofs.Ending.{fresh, fresh_sized}
use Rattle.answer.proofs.Answering.{prints}
use Rattle.shade.specs.Counted.{still_said, JobTable}
use Rattle.shade.proofs.Visiting.{laid_still, prints_still, tabled}
use Rattle.shade.proofs.shade_job.Goals as goal

pub run_parts-pictured-requires : goal.run_parts-pictured-requires
run_parts-pictured-requires c =
    subst (LaidOut c.args.job.now) (sym c.still.ensures) (laid_still c.requires.1.placed)

pub put_visits-requires : goal.put_visits-requires
put_visits-requires c =
    let content : Content = content_of c.args.job.now c.args.p in
    let lent_after : Lends =
    let z = c.run_parts-pictured.new in
    lends z.colours z.map z.rows z.exits z.work z.stack z.kinds z.values in
    let answered : (r : Result Pictured Refusal) → c.run_parts-pictured.result ≡ r → running.Outcome (asked_of (still_said content)) fresh r lent_after = λ r e. subst (λ (x : Result Pictured Refusal). running.Outcome (asked_of (still_said content)) fresh x lent_after) e
    (subst (λ (q : Parts). running.Outcome (asked_of (content_of c.args.job.now q)) fresh c.run_parts-pictured.result lent_after) c.still.ensures c.run_parts-pictured.ensures) in
    let table : JobTable content c.in-Ok.pictured.regions lent_after.map lent_after.rows lent_after.exits = tabled content fresh_sized (answered _ c.in-Ok.is) in
    let h = c.requires in
    (h.0, h.1, table)

pub returns-in-Ok : goal.returns-in-Ok
returns-in-Ok c =
    let content : Content = content_of c.args.job.now c.args.p in
    let lent_after : Lends =
    let z = c.run_parts-pictured.new in
    lends z.colours z.map z.rows z.exits z.work z.stack z.kinds z.values in
    let answered : (r : Result Pictured Refusal) → c.run_parts-pictured.result ≡ r → running.Outcome (asked_of (still_said content)) fresh r lent_after = λ r e. subst (λ (x : Result Pictured Refusal). running.Outcome (asked_of (still_said content)) fresh x lent_after) e
    (subst (λ (q : Parts). running.Outcome (asked_of (content_of c.args.job.now q)) fresh c.run_parts-pictured.result lent_after) c.still.ensures c.run_parts-pictured.ensures) in
    let table : JobTable content c.in-Ok.pictured.regions lent_after.map lent_after.rows lent_after.exits = tabled content fresh_sized (answered _ c.in-Ok.is) in
    let shown = c.put_visits.ensures in
    prints (ran content c.requires.1.said table.none shown.shaded) shown.put

pub returns-in-Err : goal.returns-in-Err
returns-in-Err c =
    let content : Content = content_of c.args.job.now c.args.p in
    let lent_after : Lends =
    let z = c.run_parts-pictured.new in
    lends z.colours z.map z.rows z.exits z.work z.stack z.kinds z.values in
    let answered : (r : Result Pictured Refusal) → c.run_parts-pictured.result ≡ r → running.Outcome (asked_of (still_said content)) fresh r lent_after = λ r e. subst (λ (x : Result Pictured Refusal). running.Outcome (asked_of (still_said content)) fresh x lent_after) e
    (subst (λ (q : Parts). running.Outcome (asked_of (content_of c.args.job.now q)) fresh c.run_parts-pictured.result lent_after) c.still.ensures c.run_parts-pictured.ensures) in
    prints_still content c.requires.1.said {l' = lent_after} fresh_sized (answered _ c.in-Err.is) (rw c.number.ensures at c.put_refusal.ensures)
