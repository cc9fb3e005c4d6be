-- `interpreter::endless::determine_runs_forever` meets its contract: the table that is checked is the one lent. Assumes nothing.
use mathlib.Core.Path.{sym}
use Rattle.std.proofs.lemmas.Result.{err_from_is_err_and}
use Rattle.interpreter.proofs.Answering.{forever_refuses, forever_is}
use Rattle.interpreter.proofs.endless.determine_runs_forever.Goals as goal

pub returns-in_err-table : goal.returns-in_err-table
returns-in_err-table c =
    let a = c.args in
    let p = err_from_is_err_and c.from_residual.result c.from_residual.ensures.1 in
    rw (p.1, p.2, c.in_err-table.ensures.1) (forever_refuses a.n a.rows.now a.exits.now c.in_err-table.ensures.0)

pub returns : goal.returns
returns c =
    let a = c.args in
    let t = c.in_ok-table.ensures in
    forever_is a.n a.rows.now a.exits.now _ t.0 (sym (rw (t.1, t.2, t.3) at c.all_onward.ensures))
