-- `cfg::search::visit` meets its contract: the queue has room: the region has no mark, so one of the counted rows is its own.
-- Assumes nothing.
use native.Mathlib.Omega.{arith}
use lib.ListN.{length}
use Rattle.cfg.specs.Search.{pushed, kept}
use Rattle.cfg.proofs.Bare.{bare_some}
use Rattle.cfg.proofs.search.visit.Goals as goal

pub returns-then-rows-cell-ne0 : goal.returns-then-rows-cell-ne0
returns-then-rows-cell-ne0 c =
    let the-row-cell = c.row_cell-cell in
    kept (rw the-row-cell.ensures at c.if-rows-cell-ne0.true)

pub bounds-work-tail : goal.bounds-work-tail
bounds-work-tail c =
    let the-args = c.args in
    let the-pre = c.requires in
    let the-row-cell = c.row_cell-cell in
    let a = the-args in
    let r = the-pre.room in
    omega (arith, bare_some (length a.work.now) a.rows.now a.q the-pre.q_in_bounds (omega (arith, r.long, the-pre.q_in_bounds)) (rw the-row-cell.ensures at c.if-rows-cell-ne0.false), r.free)

pub returns : goal.returns
returns c =
    let the-row-cell = c.row_cell-cell in
    rw the-row-cell.ensures (pushed (rw the-row-cell.ensures at c.if-rows-cell-ne0.false))
