-- `cfg::building::write_table` meets its contract: the parts that are lent have exactly the room of the table, and come back before what stood past them.
-- Assumes nothing.
use mathlib.Core.Path.{sym}
use Prim.Native.Nat.{◌*◌}
use native.Mathlib.Omega.{arith}
use lib.Seq.{length-take-le}
use Rattle.picture.proofs.Codels.{grid_count, grid_few}
use Rattle.cfg.proofs.Refusing.{sized_parts, written}
use Rattle.cfg.proofs.building.write_table.Goals as goal

pub rows_room-of_rows-requires : goal.rows_room-of_rows-requires
rows_room-of_rows-requires c =
    let the-pre = c.requires in
    grid_few c.args.grid

pub exits_room-of_exits-requires : goal.exits_room-of_exits-requires
exits_room-of_exits-requires c =
    let the-pre = c.requires in
    grid_few c.args.grid

pub slice_bounds-fill_table-end : goal.slice_bounds-fill_table-end
slice_bounds-fill_table-end c =
    let the-pre = c.requires in
    omega (arith, grid_count c.args.grid, the-pre.map_in)

pub slice_bounds-fill_table-end-2 : goal.slice_bounds-fill_table-end-2
slice_bounds-fill_table-end-2 c =
    let the-args = c.args in
    let the-pre = c.requires in
    sym (length-take-le (the-args.grid.shape.rows * the-args.grid.shape.cols) the-args.map.now (omega (arith, grid_count c.args.grid, the-pre.map_in)))

pub slice_bounds-fill_table-end-3 : goal.slice_bounds-fill_table-end-3
slice_bounds-fill_table-end-3 c =
    let the-pre = c.requires in
    let the-rows-room = c.rows_room-of_rows in
    omega (arith, grid_count c.args.grid, the-pre.rows_in, the-rows-room.ensures)

pub slice_bounds-fill_table-end-4 : goal.slice_bounds-fill_table-end-4
slice_bounds-fill_table-end-4 c =
    let the-rows-room = c.rows_room-of_rows in
    let the-args = c.args in
    let the-pre = c.requires in
    sym (length-take-le the-rows-room.result the-args.rows.now (omega (arith, grid_count c.args.grid, the-pre.rows_in, the-rows-room.ensures)))

pub slice_bounds-fill_table-end-5 : goal.slice_bounds-fill_table-end-5
slice_bounds-fill_table-end-5 c =
    let the-pre = c.requires in
    let the-exits-room = c.exits_room-of_exits in
    omega (arith, grid_count c.args.grid, the-pre.exits_in, the-exits-room.ensures)

pub slice_bounds-fill_table-end-6 : goal.slice_bounds-fill_table-end-6
slice_bounds-fill_table-end-6 c =
    let the-exits-room = c.exits_room-of_exits in
    let the-args = c.args in
    let the-pre = c.requires in
    sym (length-take-le the-exits-room.result the-args.exits.now (omega (arith, grid_count c.args.grid, the-pre.exits_in, the-exits-room.ensures)))

pub slice_bounds-fill_table-end-7 : goal.slice_bounds-fill_table-end-7
slice_bounds-fill_table-end-7 c =
    let the-pre = c.requires in
    omega (arith, grid_count c.args.grid, the-pre.work_in)

pub slice_bounds-fill_table-end-8 : goal.slice_bounds-fill_table-end-8
slice_bounds-fill_table-end-8 c =
    let the-args = c.args in
    let the-pre = c.requires in
    sym (length-take-le (the-args.grid.shape.rows * the-args.grid.shape.cols) the-args.work.now (omega (arith, grid_count c.args.grid, the-pre.work_in)))

pub fill_table-requires : goal.fill_table-requires
fill_table-requires c =
    let the-rows-room = c.rows_room-of_rows in
    let the-exits-room = c.exits_room-of_exits in
    let the-args = c.args in
    let the-pre = c.requires in
    rw (the-rows-room.ensures, the-exits-room.ensures) (sized_parts the-args.map.now the-args.rows.now the-args.exits.now the-args.work.now _ (grid_count c.args.grid) the-pre)

pub returns : goal.returns
returns c =
    let the-rows-room = c.rows_room-of_rows in
    let the-exits-room = c.exits_room-of_exits in
    let the-pre = c.requires in
    let the-fill-table = c.fill_table in
    rw (the-rows-room.ensures, the-exits-room.ensures) (written _ (grid_count c.args.grid) the-fill-table.ensures)
