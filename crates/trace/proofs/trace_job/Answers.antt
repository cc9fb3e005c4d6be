-- `trace::trace_job` meets its contract: a refusal is printed, and else the trace of the run that was made.
-- Assumes nothing.
use mathlib.Core.Path.{◌≡◌, subst}
use Rattle.std.specs.Prelude.{Result}
use Rattle.base.specs.declared.refusal.Refusal.{Refusal}
use Rattle.piet.specs.declared.run_picture.Pictured.{Pictured}
use Rattle.piet.specs.RunPicture as running
use Rattle.piet.specs.RunPicture.{Lends, lends}
use Rattle.job.specs.Encoding.{Content}
use Rattle.job.specs.Outcome.{content_of}
use Rattle.answer.specs.Program.{asked_of}
use Rattle.answer.proofs.Ending.{Sized, fresh, fresh_sized}
use Rattle.answer.proofs.Answering.{prints_refusal}
use Rattle.trace.proofs.Tracing.{good, endable, prints_trace}
use Rattle.std.proofs.Common.{rules}
use Rattle.trace.proofs.trace_job.Goals as goal

pub invariant_of-table : goal.invariant_of-table
invariant_of-table c =
    let content : Content = content_of c.args.job.now c.args.p in
    let lent_after : Lends =
    let z = c.run_parts-pictured.new in
    lends z.colours z.map z.rows z.exits z.work z.stack z.kinds z.values in
    let sized : Sized lent_after = record {
      colours = search rules;
      map = search rules;
      rows = search rules;
      exits = search rules;
      work = search rules;
      stack = search rules;
      kinds = search rules;
      values = search rules;
    } in
    let answered : (r : Result Pictured Refusal) → c.run_parts-pictured.result ≡ r → running.Outcome (asked_of content) fresh r lent_after = λ r e. subst (λ (x : Result Pictured Refusal). running.Outcome (asked_of content) fresh x lent_after) e c.run_parts-pictured.ensures in
    record { good = good content fresh_sized sized (answered _ c.in-Ok.is) }

pub trace_parts-requires : goal.trace_parts-requires
trace_parts-requires c =
    let content : Content = content_of c.args.job.now c.args.p in
    let lent_after : Lends =
    let z = c.run_parts-pictured.new in
    lends z.colours z.map z.rows z.exits z.work z.stack z.kinds z.values in
    let sized : Sized lent_after = record {
      colours = search rules;
      map = search rules;
      rows = search rules;
      exits = search rules;
      work = search rules;
      stack = search rules;
      kinds = search rules;
      values = search rules;
    } in
    let answered : (r : Result Pictured Refusal) → c.run_parts-pictured.result ≡ r → running.Outcome (asked_of content) fresh r lent_after = λ r e. subst (λ (x : Result Pictured Refusal). running.Outcome (asked_of content) fresh x lent_after) e c.run_parts-pictured.ensures in
    record {
      reads = c.requires.1;
      endable = endable content fresh_sized sized (answered _ c.in-Ok.is) _ c.requires.0;
    }

pub returns-in-Ok : goal.returns-in-Ok
returns-in-Ok c =
    let content : Content = content_of c.args.job.now c.args.p in
    let lent_after : Lends =
    let z = c.run_parts-pictured.new in
    lends z.colours z.map z.rows z.exits z.work z.stack z.kinds z.values in
    let sized : Sized lent_after = record {
      colours = search rules;
      map = search rules;
      rows = search rules;
      exits = search rules;
      work = search rules;
      stack = search rules;
      kinds = search rules;
      values = search rules;
    } in
    let answered : (r : Result Pictured Refusal) → c.run_parts-pictured.result ≡ r → running.Outcome (asked_of content) fresh r lent_after = λ r e. subst (λ (x : Result Pictured Refusal). running.Outcome (asked_of content) fresh x lent_after) e c.run_parts-pictured.ensures in
    prints_trace content fresh_sized sized (answered _ c.in-Ok.is) c.requires.1.said c.trace_parts.ensures

pub returns-in-Err : goal.returns-in-Err
returns-in-Err c =
    let content : Content = content_of c.args.job.now c.args.p in
    let lent_after : Lends =
    let z = c.run_parts-pictured.new in
    lends z.colours z.map z.rows z.exits z.work z.stack z.kinds z.values in
    let answered : (r : Result Pictured Refusal) → c.run_parts-pictured.result ≡ r → running.Outcome (asked_of content) fresh r lent_after = λ r e. subst (λ (x : Result Pictured Refusal). running.Outcome (asked_of content) fresh x lent_after) e c.run_parts-pictured.ensures in
    prints_refusal content c.requires.1.said {l' = lent_after} fresh_sized (answered _ c.in-Err.is) (rw c.number.ensures at c.put_refusal.ensures)
