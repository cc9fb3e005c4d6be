-- `visits::run_visits` meets its contract. The tests are those of the table of refusals, in its order; past them the counts that are
-- listed are those of the history. Assumes nothing.
use mathlib.Core.Path.{◌≡◌, refl, ap, subst, ◌∙◌}
use mathlib.Core.Bool.{true, false}
use mathlib.Core.List.{List, ◌++◌}
use Prim.Native.Nat.{ℕ, ◌-◌}
use native.Mathlib.Omega.{arith}
use borrow.Author.Tests.{eq-eqb, ne_eqb, lt-ltb, le-ltb}
use lib.Dec.{eqb}
use lib.ListN.{length, get_or, replicate}
use Rattle.base.specs.declared.edition.Edition.{Edition}
use Rattle.base.specs.Edition.{edition_of}
use Rattle.base.proofs.EditionLaws.{edition_known, edition_refused}
use Rattle.std.proofs.lemmas.Result.{err_from_is_err_and}
use Rattle.base.specs.Counting.{count}
use Rattle.base.specs.Lent.{lent}
use Rattle.text.proofs.Judging.{judged_start}
use Rattle.machine.specs.Machine.{Asks, asks, Given, given_of, given}
use Rattle.machine.specs.Place as place
use Rattle.machine.specs.Held.{slices}
use Rattle.machine.proofs.Only.{AsLong}
use Rattle.interpreter.specs.Table.{valid_of, Good}
use Rattle.interpreter.specs.History.{regions_of}
use Rattle.interpreter.specs.Outcome.{job_of, end_of}
use Rattle.interpreter.specs.Resume.{Started}
use Rattle.interpreter.proofs.Settled.{settled, reached_judged}
use Rattle.interpreter.proofs.ValidLaws.{good_of}
use Rattle.visits.specs.Outcome.{Lends, lends, uncountable, too_short}
use Rattle.visits.specs.Counted.{Counted}
use Rattle.visits.proofs.Starting.{counts_held}
use Rattle.visits.proofs.ListingLaws.{list_same}
use Rattle.visits.proofs.Answering.{unknown, wrong, endless, short, right, refuses, finishes}
use Rattle.visits.proofs.run_visits.Goals as goal

pub returns-in_err-known : goal.returns-in_err-known
returns-in_err-known c =
    let what : Asks = asks c.args.edition c.args.limit c.args.abstract_mode c.args.input.now in
    let held : Lends = lends c.args.stack.now c.args.kinds.now c.args.values.now c.args.visits.now c.args.unvisited.now in
    let a = c.args in
    let p = err_from_is_err_and c.from_residual.result c.from_residual.ensures.1 in
    let k = edition_refused a.edition c.in_err-known.ensures in
    rw (p.1, p.2, k.1) (record { outcome = refuses a.n a.rows.now a.exits.now what held (unknown k.0); resumable = tt })

pub returns-in_err-table : goal.returns-in_err-table
returns-in_err-table c =
    let what : Asks = asks c.args.edition c.args.limit c.args.abstract_mode c.args.input.now in
    let held : Lends = lends c.args.stack.now c.args.kinds.now c.args.values.now c.args.visits.now c.args.unvisited.now in
    let a = c.args in
    let p = err_from_is_err_and c.from_residual-in_err-table.result c.from_residual-in_err-table.ensures.1 in
    let k = edition_known a.edition c.in_ok-known.ensures in
    let bad = c.in_err-table.ensures in
    rw (p.1, p.2, bad.1) (record { outcome = refuses a.n a.rows.now a.exits.now what held (wrong k.0 (rw k.1 at bad.0)); resumable = tt })

pub returns-then-limit-eq-UNCOUNTABLE : goal.returns-then-limit-eq-UNCOUNTABLE
returns-then-limit-eq-UNCOUNTABLE c =
    let what : Asks = asks c.args.edition c.args.limit c.args.abstract_mode c.args.input.now in
    let held : Lends = lends c.args.stack.now c.args.kinds.now c.args.values.now c.args.visits.now c.args.unvisited.now in
    let k = edition_known c.args.edition c.in_ok-known.ensures in
    let valid : let a = c.args in valid_of (edition_of a.edition) a.n a.rows.now a.exits.now ≡ true = rw k.1 at c.in_ok-table.ensures.0 in
    let a = c.args in record {
      outcome = refuses a.n a.rows.now a.exits.now what held (endless k.0 valid (eq-eqb a.limit uncountable c.if-limit-eq-UNCOUNTABLE.true));
      resumable = tt;
    }

pub returns-then-visits-n : goal.returns-then-visits-n
returns-then-visits-n c =
    let what : Asks = asks c.args.edition c.args.limit c.args.abstract_mode c.args.input.now in
    let held : Lends = lends c.args.stack.now c.args.kinds.now c.args.values.now c.args.visits.now c.args.unvisited.now in
    let k = edition_known c.args.edition c.in_ok-known.ensures in
    let valid : let a = c.args in valid_of (edition_of a.edition) a.n a.rows.now a.exits.now ≡ true = rw k.1 at c.in_ok-table.ensures.0 in
    let limited : eqb c.args.limit uncountable ≡ false = ne_eqb c.args.limit uncountable c.if-limit-eq-UNCOUNTABLE.false in
    let a = c.args in record {
      outcome = refuses a.n a.rows.now a.exits.now what held (short k.0 valid limited (rw (lt-ltb (length held.visits) a.n c.if-visits-n.true) refl));
      resumable = tt;
    }

pub returns-then-unvisited-n : goal.returns-then-unvisited-n
returns-then-unvisited-n c =
    let what : Asks = asks c.args.edition c.args.limit c.args.abstract_mode c.args.input.now in
    let held : Lends = lends c.args.stack.now c.args.kinds.now c.args.values.now c.args.visits.now c.args.unvisited.now in
    let k = edition_known c.args.edition c.in_ok-known.ensures in
    let valid : let a = c.args in valid_of (edition_of a.edition) a.n a.rows.now a.exits.now ≡ true = rw k.1 at c.in_ok-table.ensures.0 in
    let limited : eqb c.args.limit uncountable ≡ false = ne_eqb c.args.limit uncountable c.if-limit-eq-UNCOUNTABLE.false in
    let a = c.args in record {
      outcome = refuses a.n a.rows.now a.exits.now what held (short k.0 valid limited (rw (le-ltb (length held.visits) a.n c.if-visits-n.false, lt-ltb (length held.unvisited) a.n c.if-unvisited-n.true) refl));
      resumable = tt;
    }

pub count_visits-ended-requires : goal.count_visits-ended-requires
count_visits-ended-requires c =
    record { n_in_bounds = (rw c.in_ok-table.ensures.1 c.if-visits-n.false, omega (arith, c.ranges.limit.fits, c.if-limit-eq-UNCOUNTABLE.false)) }

pub list_unvisited-missed-requires : goal.list_unvisited-missed-requires
list_unvisited-missed-requires c =
    let k = edition_known c.args.edition c.in_ok-known.ensures in
    let valid : let a = c.args in valid_of (edition_of a.edition) a.n a.rows.now a.exits.now ≡ true = rw k.1 at c.in_ok-table.ensures.0 in
    let good : let a = c.args in Good a.n a.rows.now a.exits.now = let a = c.args in good_of (edition_of a.edition) a.n a.rows.now a.exits.now valid in
    let g = good in
    record {
      n_bound = (g.few, g.rows_fit);
      n_in_bounds = (omega (arith, c.if-visits-n.false, c.count_visits-ended.auto.visits), c.if-unvisited-n.false);
    }

pub returns : goal.returns
returns c =
    let what : Asks = asks c.args.edition c.args.limit c.args.abstract_mode c.args.input.now in
    let held : Lends = lends c.args.stack.now c.args.kinds.now c.args.values.now c.args.visits.now c.args.unvisited.now in
    let k = edition_known c.args.edition c.in_ok-known.ensures in
    let valid : let a = c.args in valid_of (edition_of a.edition) a.n a.rows.now a.exits.now ≡ true = rw k.1 at c.in_ok-table.ensures.0 in
    let limited : eqb c.args.limit uncountable ≡ false = ne_eqb c.args.limit uncountable c.if-limit-eq-UNCOUNTABLE.false in
    let roomy : too_short c.args.n held ≡ false =
    rw (le-ltb (length held.visits) c.args.n c.if-visits-n.false, le-ltb (length held.unvisited) c.args.n c.if-unvisited-n.false) refl in
    let good : let a = c.args in Good a.n a.rows.now a.exits.now = let a = c.args in good_of (edition_of a.edition) a.n a.rows.now a.exits.now valid in
    let t = c.in_ok-table.ensures in
    let u = c.list_unvisited-missed in
    let r = c.count_visits-ended in
    let n = c.args.n in
    let rows = c.args.rows.now in
    let exits = c.args.exits.now in
    let l = held.run in
    let v = c.args.visits.now in
    let l' = slices r.new.stack r.new.kinds r.new.values in
    let v' = r.new.visits in
    let long : AsLong l' l = record { stack = r.auto.stack; kinds = r.auto.kinds; values = r.auto.values } in
    let g : Edition → Given = λ e. given (record { edition = e; limit = c.args.limit; abstract_mode = c.args.abstract_mode }) c.args.input.now in
    let ran = subst (λ (e : Edition). Started n rows exits (g e) l l' r.result × Counted n (job_of rows exits (g e) l) v v')
    k.1 (rw (t.1, t.2, t.3) at r.ensures.started, rw (t.1, t.2, t.3) at r.ensures.counted) in
    let entered = regions_of place.start ran.1.history.exits in
    let same = list_same n rows (λ i. get_or v' i 0) (λ i. count i entered) (counts_held n entered v ran.1.cells) in
    let e = settled n (end_of rows exits (given_of what) l) l' l r.result long ran.0 in record {
      outcome = finishes n rows exits what held (right k.0 valid limited roomy) ran.1.history e.0 (u.ensures.counted ∙ ap length same) (λ i. record { run = e.1 i; visits = ran.1.cells i; unvisited = (u.ensures.cells ∙ ap (λ (w : List ℕ). lent (w ++ replicate (n - length w) 0) c.args.unvisited.now) same) i });
      resumable = (good, ran.0, reached_judged n rows exits (given_of what) l l' c.args.limit place.start r.result ran.0 (judged_start (edition_of c.args.edition) c.args.input.now));
    }
