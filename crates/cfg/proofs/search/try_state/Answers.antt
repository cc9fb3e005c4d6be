-- `cfg::search::try_state` meets its contract: the cell has the codel to leave by, and gets the number of the way (`Trying`).
-- Assumes nothing.
use native.Mathlib.Omega.{arith}
use Rattle.flow.proofs.Order.{valid_number}
use Rattle.cfg.proofs.Trying.{way_inside, leave_inside, tries_read}
use Rattle.cfg.proofs.search.try_state.Goals as goal

pub colour_at-from-requires : goal.colour_at-from-requires
colour_at-from-requires c =
    let p = c.requires in
    leave_inside c.args.state p.grounds p.leaves_by (rw c.exit_cell-cell.ensures at c.wide-i.ensures) c.args.grid.framed.cols_are

pub attempt_from-way-requires : goal.attempt_from-way-requires
attempt_from-way-requires c =
    let p = c.requires in (
      leave_inside c.args.state p.grounds p.leaves_by (rw c.exit_cell-cell.ensures at c.wide-i.ensures) c.args.grid.framed.cols_are,
      rw c.of_number-p.ensures (valid_number c.args.state p.state_bound),
    )

pub way_number-requires : goal.way_number-requires
way_number-requires c =
    let p = c.requires in
    let read = rw c.exit_cell-cell.ensures at c.wide-i.ensures in
    record {
      grounds = p.grounds;
      in_grid = way_inside c.args.state p.grounds p.leaves_by read c.args.grid.framed.cols_are p.state_bound c.of_number-p.ensures c.attempt_from-way.ensures;
      state_bound = p.state_bound;
    }

pub bounds-exits-cell-2 : goal.bounds-exits-cell-2
bounds-exits-cell-2 c = omega (arith, c.requires.r_in_bounds, c.requires.state_bound)

pub queue_way-requires : goal.queue_way-requires
queue_way-requires c =
    let p = c.requires in
    let read = rw c.exit_cell-cell.ensures at c.wide-i.ensures in
    record {
      grounds = p.grounds;
      in_grid = way_inside c.args.state p.grounds p.leaves_by read c.args.grid.framed.cols_are p.state_bound c.of_number-p.ensures c.attempt_from-way.ensures;
      room = p.queue.room;
      work_len = p.work_len;
    }

pub returns : goal.returns
returns c =
    let p = c.requires in
    let read = rw c.exit_cell-cell.ensures at c.wide-i.ensures in
    rw c.exit_cell-cell.ensures
    (tries_read c.args.state p.grounds p.leaves_by read c.args.grid.framed.cols_are p.found p.queue p.work_len p.state_bound c.of_number-p.ensures
    c.attempt_from-way.ensures c.colour_at-from.ensures c.way_number.ensures c.queue_way.ensures)
