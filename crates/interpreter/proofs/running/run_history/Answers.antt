-- `interpreter::running::run_history` meets its contract. What the slices hold at the end is what the definition says of every cell. Assumes nothing.
use mathlib.Core.Path.{◌≡◌, refl, subst}
use mathlib.Core.Bool.{true}
use mathlib.Core.List.{[]}
use native.Mathlib.Omega.{arith}
use Rattle.base.specs.declared.edition.Edition.{Edition}
use Rattle.base.specs.Edition.{edition_of}
use Rattle.base.specs.declared.refusal.Refusal.TheVariants.{Table, Edition as no_edition}
use Rattle.base.proofs.EditionLaws.{edition_known, edition_refused}
use Rattle.std.proofs.lemmas.Result.{err_from_is_err_and}
use Rattle.text.proofs.Judging.{judged_start}
use Rattle.machine.specs.Machine.{Asks, asks, given_of, given}
use Rattle.machine.specs.Place as place
use Rattle.machine.specs.Held.{Slices, slices}
use Rattle.machine.proofs.Only.{AsLong}
use Rattle.interpreter.specs.Table.{valid_of}
use Rattle.interpreter.specs.Outcome.{end_of}
use Rattle.interpreter.specs.Resume.{Started}
use Rattle.interpreter.specs.Observed.{ObservedAll}
use Rattle.interpreter.proofs.Answering.{answer_unknown, answer_wrong, answer_right, run_finishes, record_refuses, record_finishes}
use Rattle.interpreter.proofs.Settled.{settled, reached_judged}
use Rattle.interpreter.proofs.ValidLaws.{good_of}
use Rattle.interpreter.proofs.running.run_history.Goals as goal

pub returns-in_err-known : goal.returns-in_err-known
returns-in_err-known c =
    let what : Asks = asks c.args.edition c.args.limit c.args.abstract_mode c.args.input.now in
    let held : Slices = slices c.args.stack.now c.args.kinds.now c.args.values.now in
    let a = c.args in
    let p = err_from_is_err_and c.from_residual.result c.from_residual.ensures.1 in
    let k = edition_refused a.edition c.in_err-known.ensures in
    rw (p.1, p.2, k.1) (record {
      recorded = record_refuses a.n a.rows.now a.exits.now what held a.taken.now no_edition (answer_unknown a.n a.rows.now a.exits.now what held k.0);
      resumable = tt;
    })

pub returns-in_err-table : goal.returns-in_err-table
returns-in_err-table c =
    let what : Asks = asks c.args.edition c.args.limit c.args.abstract_mode c.args.input.now in
    let held : Slices = slices c.args.stack.now c.args.kinds.now c.args.values.now in
    let a = c.args in
    let p = err_from_is_err_and c.from_residual-in_err-table.result c.from_residual-in_err-table.ensures.1 in
    let k = edition_known a.edition c.in_ok-known.ensures in
    let wrong = c.in_err-table.ensures in
    rw (p.1, p.2, wrong.1) (record {
      recorded = record_refuses a.n a.rows.now a.exits.now what held a.taken.now Table
          (answer_wrong a.n a.rows.now a.exits.now what held k.0 (rw k.1 at wrong.0));
      resumable = tt;
    })

pub slice_bounds-run_observed-end : goal.slice_bounds-run_observed-end
slice_bounds-run_observed-end c = refl

-- there are no cells to count in
pub run_observed-requires : goal.run_observed-requires
run_observed-requires c = record { can_count = λ r h k. absurd (omega arith) }

pub returns : goal.returns
returns c =
    let what : Asks = asks c.args.edition c.args.limit c.args.abstract_mode c.args.input.now in
    let held : Slices = slices c.args.stack.now c.args.kinds.now c.args.values.now in
    let k = edition_known c.args.edition c.in_ok-known.ensures in
    let right : let a = c.args in valid_of (edition_of a.edition) a.n a.rows.now a.exits.now ≡ true = rw k.1 at c.in_ok-table.ensures.0 in
    let t = c.in_ok-table.ensures in
    let r = c.run_observed in
    let n = c.args.n in
    let rows = c.args.rows.now in
    let exits = c.args.exits.now in
    let l' = slices r.new.stack r.new.kinds r.new.values in
    let long : AsLong l' held = record { stack = r.auto.stack; kinds = r.auto.kinds; values = r.auto.values } in
    let taken = c.args.taken.now in
    let taken' = r.new.taken in
    let ran : Started n rows exits (given_of what) held l' r.result × ObservedAll rows exits (given_of what) held [] r.new.visits taken taken' =
    subst
    (λ (e : Edition).
    let g = given (record { edition = e; limit = c.args.limit; abstract_mode = c.args.abstract_mode }) c.args.input.now in
    Started n rows exits g held l' r.result × ObservedAll rows exits g held [] r.new.visits taken taken')
    k.1 (rw (t.1, t.2, t.3) at r.ensures.started, rw (t.2, t.3) at r.ensures.observed_all) in
    let e = settled n (end_of rows exits (given_of what) held) l' held r.result long ran.0 in
    let done = answer_right n rows exits what held k.0 right in
    record {
      recorded = record_finishes n rows exits what held taken done (run_finishes n rows exits what held done e.0 e.1) ran.1.history ran.1.exits;
      resumable = (
        good_of (edition_of c.args.edition) n rows exits right,
        ran.0,
        reached_judged n rows exits (given_of what) held l' c.args.limit place.start r.result ran.0 (judged_start (edition_of c.args.edition) c.args.input.now),
      );
    }
