-- `region::rows::note` meets its contract: a row of size 0 is begun, another's size is counted up. Assumes nothing.
use Rattle.region.proofs.Tabling.{counted_at, started_at}
use Rattle.region.proofs.rows.note.Goals as goal

pub returns-then-size-ne0 : goal.returns-then-size-ne0
returns-then-size-ne0 c =
    let the-args = c.args in
    let the-row-cell = c.row_cell-at in
    counted_at the-args.rows.now the-row-cell.ensures c.if-size-ne0.true

pub returns : goal.returns
returns c =
    let the-args = c.args in
    let the-row-cell = c.row_cell-at in
    let the-if1 = c.if-size-ne0 in
    let the-begin-row = c.begin_row in
    started_at the-args.rows.now the-row-cell.ensures the-if1.false the-begin-row.ensures
