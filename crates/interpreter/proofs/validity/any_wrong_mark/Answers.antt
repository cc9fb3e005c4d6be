use mathlib.Core.Path.{◌≡◌, sym, ap, ◌∙◌}
use native.Mathlib.Omega.{arith}
use borrow.Author.Tests.{lt-ltb, le-ltb}
use Rattle.interpreter.specs.Table.{any, wrong_mark}
use Rattle.table.specs.Layout.{mark_of}
use Rattle.interpreter.proofs.ValidLaws.{any_none, any_more, any_yes}
use Rattle.interpreter.proofs.validity.any_wrong_mark.Goals as goal

pub loop-i-init : goal.loop-i-init
loop-i-init c = any_none _

pub bounds-rows-row_cell : goal.bounds-rows-row_cell
bounds-rows-row_cell c = omega (arith, c.row_cell.ensures)

pub returns-then-mark-gt1 : goal.returns-then-mark-gt1
returns-then-mark-gt1 c =
    let the-args = c.args in
    let the-loop = c.loop-i in
    let the-row-cell = c.row_cell in
    let rows = the-args.rows.now in
    sym
    (any_yes (wrong_mark rows) the-loop.i the-args.n (omega arith)
    (lt-ltb 1 (mark_of rows the-loop.i) (rw the-row-cell.ensures at c.if-mark-gt1.true)))

pub loop-i-preserved : goal.loop-i-preserved
loop-i-preserved c =
    let the-args = c.args in
    let the-loop = c.loop-i in
    let the-row-cell = c.row_cell in
    let rows = the-args.rows.now in
    any_more (wrong_mark rows) the-loop.i (le-ltb 1 (mark_of rows the-loop.i) (rw the-row-cell.ensures at c.if-mark-gt1.false)) the-loop.invariant

pub returns : goal.returns
returns c =
    let the-args = c.args in
    let rows = the-args.rows.now in
    let e : c.loop-i.i ≡ the-args.n = omega (arith, c.loop-i.auto.i-end, c.loop-i-test.false) in
    sym (ap (any (wrong_mark rows)) (sym e) ∙ c.loop-i.invariant)
