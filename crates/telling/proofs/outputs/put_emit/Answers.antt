-- `telling::outputs::put_emit` meets its contract: a number, a character, or nothing of what is none.
-- Assumes nothing.
use native.Mathlib.Omega.{arith}
use mir.Syntax.{w64}
use mir.ValLaws.{to_z-of_z}
use Rattle.report.specs.Text.{int}
use Rattle.report.proofs.TextLaws.{int_long}
use Rattle.report.proofs.Writing.{put_none, wrote, widen, room_of_lem}
use Rattle.telling.specs.Bounds.{Names}
use Rattle.std.specs.Prelude.{Some, None}
use Rattle.telling.proofs.CharLaws.{named_small, emit_number, emit_none, emit_char}
use Rattle.telling.proofs.outputs.put_emit.Goals as goal

pub put_int-requires : goal.put_int-requires
put_int-requires c =
    let v = c.args.v in
    rw (to_z-of_z w64 v c.ranges.v) (room_of_lem (int v) 20 (int_long v c.ranges.v.sfits) c.requires)

pub returns-then-kind-ne-CHARACTER : goal.returns-then-kind-ne-CHARACTER
returns-then-kind-ne-CHARACTER c =
    let v = c.args.v in
    rw (emit_number c.args.kind v c.if-kind-ne-CHARACTER.true)
    (wrote (rw (to_z-of_z w64 v c.ranges.v) at c.put_int.ensures) 20 (int_long v c.ranges.v.sfits))

pub returns-in_default : goal.returns-in_default
returns-in_default c =
    let unnamed : Names c.args.v None =
    rw (to_z-of_z w64 c.args.v c.ranges.v, c.in_default.is) at c.character_of.ensures in
    rw (emit_none c.args.kind c.args.v c.if-kind-ne-CHARACTER.false unnamed) (wrote (put_none _ _) 20 (omega arith))

pub put_scalar-requires : goal.put_scalar-requires
put_scalar-requires c =
    let named : Names c.args.v (Some c.in-Some.c) =
    rw (to_z-of_z w64 c.args.v c.ranges.v, c.in-Some.is) at c.character_of.ensures in
    let h = c.requires in
    (named_small c.args.v c.in-Some.c named, omega arith)

pub returns : goal.returns
returns c =
    let named : Names c.args.v (Some c.in-Some.c) =
    rw (to_z-of_z w64 c.args.v c.ranges.v, c.in-Some.is) at c.character_of.ensures in
    rw (emit_char c.args.kind c.args.v c.in-Some.c c.if-kind-ne-CHARACTER.false named) (widen c.put_scalar.ensures 20 (omega arith))
