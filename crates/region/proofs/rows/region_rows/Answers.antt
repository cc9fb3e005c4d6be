use mathlib.Core.Path.{◌∙◌}
use native.Mathlib.Omega.{arith}
use Rattle.picture.proofs.Codels.{grid_few}
use Rattle.region.proofs.Tabling.{counting_none, note_needs, counting_more, counting_whole}
use Rattle.region.proofs.Cells.{filled_at, filled_rest}
use Rattle.region.proofs.rows.region_rows.Goals as goal

pub rows_room-room-requires : goal.rows_room-room-requires
rows_room-room-requires c =
    let the-pre = c.requires in
    omega (arith, grid_few c.args.grid)

pub fill-requires : goal.fill-requires
fill-requires c =
    let the-pre = c.requires in
    (omega arith, omega (arith, c.rows_room-room.ensures, the-pre.cols_in_bounds))

pub loop-i-init : goal.loop-i-init
loop-i-init c =
    let the-rows-room = c.rows_room-room in
    let the-args = c.args in
    let the-fill = c.fill in
    counting_none (rw the-rows-room.ensures at (filled_at the-args.rows.now the-rows-room.result 0 the-fill.ensures))

pub note-requires : goal.note-requires
note-requires c =
    let the-pre = c.requires in
    let the-fill = c.fill in
    let the-loop = c.loop-i in
    let needs = note_needs the-pre.map (omega (arith, the-fill.auto.d, the-pre.cols_in_bounds)) the-loop.invariant c.loop-i-test.true in
    record {
      i_bound = c.loop-i-test.true;
      i_in_bounds = needs.0;
      i_bound_2 = needs.1.0;
      cols_in_bounds = needs.1.1.0;
      size_field_bound = needs.1.1.1;
    }

pub loop-i-preserved : goal.loop-i-preserved
loop-i-preserved c =
    let the-pre = c.requires in
    let the-fill = c.fill in
    let the-loop = c.loop-i in
    let the-loop-test = c.loop-i-test in
    let the-note = c.note in
    counting_more the-pre.map (omega (arith, the-fill.auto.d, the-pre.cols_in_bounds)) the-loop.invariant the-loop-test.true the-note.ensures the-note.auto.rows

pub shape_of-rows : goal.shape_of-rows
shape_of-rows c =
    let the-fill = c.fill in
    c.loop-i.invariant.same_length ∙ the-fill.auto.d

pub returns : goal.returns
returns c =
    let the-pre = c.requires in
    let the-rows-room = c.rows_room-room in
    let the-args = c.args in
    let the-fill = c.fill in record { table = counting_whole the-pre.map c.loop-i.invariant c.loop-i-test.false; rest = c.loop-i.invariant.rest ∙ rw the-rows-room.ensures at (filled_rest the-args.rows.now the-rows-room.result 0 the-fill.ensures) }
