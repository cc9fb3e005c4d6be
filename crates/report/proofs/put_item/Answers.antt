-- `report::put_item` meets its contract: a letter and a number one after the other.
-- Assumes nothing.
use native.Mathlib.Omega.{arith}
use Rattle.report.proofs.Writing.{wrote, widen, room_of_lem, wrote_room, wrote_then}
use Rattle.report.proofs.TextLaws.{int_long, letter_long}
use Rattle.report.specs.Text.{int, letter, item}
use mir.Syntax.{w64}
use mir.ValLaws.{to_z-of_z}
use Rattle.report.proofs.put_item.Goals as goal

pub put_letter-next-requires : goal.put_letter-next-requires
put_letter-next-requires c =
    let v = c.args.v in
    let e = to_z-of_z w64 v c.ranges.v in
    let k = c.args.kind in
    let h = c.requires in
    room_of_lem (letter k) 2 (omega (arith, letter_long k)) (omega (arith, h))

pub put_int-requires : goal.put_int-requires
put_int-requires c =
    let v = c.args.v in
    let e = to_z-of_z w64 v c.ranges.v in
    let k = c.args.kind in
    let h = c.requires in
    let w1 = wrote c.put_letter-next.ensures 2 (omega (arith, letter_long k)) in
    rw e (room_of_lem (int v) 20 (int_long v c.ranges.v.sfits) (wrote_room 20 w1 (omega (arith, h))))

pub returns : goal.returns
unfolding item
returns c =
    let v = c.args.v in
    let e = to_z-of_z w64 v c.ranges.v in
    let k = c.args.kind in
    let h = c.requires in
    let w1 = wrote c.put_letter-next.ensures 2 (omega (arith, letter_long k)) in
    let w2 = wrote_then w1 (wrote (rw e at c.put_int.ensures) 20 (int_long v c.ranges.v.sfits)) (omega (arith, h)) in
    widen w2 (22) (omega arith)
