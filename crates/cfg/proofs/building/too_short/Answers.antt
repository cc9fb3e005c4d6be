-- `cfg::building::too_short` meets its contract: the four tests are those of the definition.
-- Assumes nothing.
use borrow.Author.Tests.{lt-ltb, le-ltb}
use Rattle.cfg.specs.Build.{short}
use Rattle.table.specs.Layout.{rows_room, exits_room}
use Rattle.cfg.proofs.building.too_short.Goals as goal

pub returns-then-map-count : goal.returns-then-map-count
unfolding short
returns-then-map-count c = rw (lt-ltb _ _ c.if-map-count.true)

pub returns-then-rows-rows_room : goal.returns-then-rows-rows_room
unfolding short
returns-then-rows-rows_room c =
    let the-if1 = c.if-map-count in
    let the-args = c.args in
    rw (le-ltb _ _ the-if1.false, lt-ltb the-args.rows (rows_room the-args.count) (rw c.rows_room.ensures at c.if-rows-rows_room.true))

pub returns-then-exits-exits_room : goal.returns-then-exits-exits_room
unfolding short
returns-then-exits-exits_room c =
    let the-if1 = c.if-map-count in
    let the-args = c.args in
    let the-rows-room = c.rows_room in
    let the-if2 = c.if-rows-rows_room in
    rw (le-ltb _ _ the-if1.false, le-ltb the-args.rows (rows_room the-args.count) (rw the-rows-room.ensures at the-if2.false), lt-ltb the-args.exits (exits_room the-args.count) (rw c.exits_room.ensures at c.if-exits-exits_room.true))

pub returns : goal.returns
unfolding short
returns c =
    let the-if1 = c.if-map-count in
    let the-args = c.args in
    let the-rows-room = c.rows_room in
    let the-if2 = c.if-rows-rows_room in
    rw (le-ltb _ _ the-if1.false, le-ltb the-args.rows (rows_room the-args.count) (rw the-rows-room.ensures at the-if2.false), le-ltb the-args.exits (exits_room the-args.count) (rw c.exits_room.ensures at c.if-exits-exits_room.false))
