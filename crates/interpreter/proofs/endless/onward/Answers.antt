-- `interpreter::endless::onward` meets its contract. The mark read is the row's. Assumes nothing.
use mathlib.Core.Bool.{not}
use mathlib.Core.Path.{refl, ap}
use native.Mathlib.Omega.{arith}
use borrow.Author.Tests.{eq-eqb, ne_eqb}
use Rattle.table.specs.Layout.{mark_of}
use Rattle.interpreter.proofs.endless.onward.Goals as goal

pub bounds-rows-cell : goal.bounds-rows-cell
bounds-rows-cell c =
    let the-pre = c.requires in
    omega (arith, c.row_cell-cell.ensures, the-pre.1)

pub returns-then-mark-eq0 : goal.returns-then-mark-eq0
returns-then-mark-eq0 c =
    let the-args = c.args in
    let the-row-cell = c.row_cell-cell in
    rw (eq-eqb (mark_of the-args.rows.now the-args.region) 0 (rw the-row-cell.ensures at c.if-mark-eq0.true)) refl

pub returns : goal.returns
returns c =
    let the-args = c.args in
    let the-row-cell = c.row_cell-cell in
    rw (ne_eqb (mark_of the-args.rows.now the-args.region) 0 (rw the-row-cell.ensures at c.if-mark-eq0.false))
    (ap not c.closed.ensures)
