-- `report::put_value` meets its contract: a space and a number one after the other.
-- Assumes nothing.
use native.Mathlib.Omega.{arith}
use Rattle.report.proofs.Writing.{wrote, widen, room_of_lem, wrote_room, wrote_then}
use Rattle.report.proofs.TextLaws.{int_long}
use Rattle.report.specs.Text.{int, value}
use mir.Syntax.{w64}
use mir.ValLaws.{to_z-of_z}
use Rattle.report.proofs.put_value.Goals as goal

pub put_int-requires : goal.put_int-requires
put_int-requires c =
    let v = c.args.v in
    let e = to_z-of_z w64 v c.ranges.v in
    let h = c.requires in
    let w1 = wrote c.put_word-next.ensures 1 (omega arith) in
    rw e (room_of_lem (int v) 20 (int_long v c.ranges.v.sfits) (wrote_room 20 w1 (omega (arith, h))))

pub returns : goal.returns
unfolding value
returns c =
    let v = c.args.v in
    let e = to_z-of_z w64 v c.ranges.v in
    let h = c.requires in
    let w1 = wrote c.put_word-next.ensures 1 (omega arith) in
    let w2 = wrote_then w1 (wrote (rw e at c.put_int.ensures) 20 (int_long v c.ranges.v.sfits)) (omega (arith, h)) in
    widen w2 21 (omega arith)
