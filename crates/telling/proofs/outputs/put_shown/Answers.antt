-- `telling::outputs::put_shown` meets its contract: a number, a character in quotes, or a character by its number.
-- Assumes nothing.
use mathlib.Core.Path.{sym, ◌∙◌}
use native.Mathlib.Omega.{arith}
use mir.Syntax.{w64}
use mir.ValLaws.{to_z-of_z}
use Rattle.report.proofs.Writing.{widen}
use Rattle.telling.specs.Bounds.{Names}
use Rattle.std.specs.Prelude.{Some, None}
use Rattle.telling.proofs.CharLaws.{named_small, shown_number, shown_other, shown_control, shown_char}
use Rattle.telling.proofs.outputs.put_shown.Goals as goal

pub returns-then-kind-ne-CHARACTER : goal.returns-then-kind-ne-CHARACTER
returns-then-kind-ne-CHARACTER c =
    let v = c.args.v in
    rw (shown_number c.args.kind v c.if-kind-ne-CHARACTER.true) (widen (rw (to_z-of_z w64 v c.ranges.v) at c.put_value.ensures) 22 (omega arith))

pub returns-in_default : goal.returns-in_default
returns-in_default c =
    let unnamed : Names c.args.v None =
    rw (to_z-of_z w64 c.args.v c.ranges.v, c.in_default.is) at c.character_of.ensures in
    let v = c.args.v in
    rw (shown_other c.args.kind v c.if-kind-ne-CHARACTER.false unnamed) (rw (to_z-of_z w64 v c.ranges.v) at c.put_item.ensures)

pub returns-then-is_control : goal.returns-then-is_control
returns-then-is_control c =
    let named : Names c.args.v (Some c.in-Some.c) =
    rw (to_z-of_z w64 c.args.v c.ranges.v, c.in-Some.is) at c.character_of.ensures in
    let v = c.args.v in
    rw (shown_control c.args.kind v c.in-Some.c c.if-kind-ne-CHARACTER.false named (sym c.is_control.ensures ∙ c.if-is_control.true))
    (rw (to_z-of_z w64 v c.ranges.v) at c.put_item-then-is_control.ensures)

pub put_quoted-requires : goal.put_quoted-requires
put_quoted-requires c =
    let named : Names c.args.v (Some c.in-Some.c) =
    rw (to_z-of_z w64 c.args.v c.ranges.v, c.in-Some.is) at c.character_of.ensures in
    let h = c.requires in
    (named_small c.args.v c.in-Some.c named, omega arith)

pub returns : goal.returns
returns c =
    let named : Names c.args.v (Some c.in-Some.c) =
    rw (to_z-of_z w64 c.args.v c.ranges.v, c.in-Some.is) at c.character_of.ensures in
    rw (shown_char c.args.kind c.args.v c.in-Some.c c.if-kind-ne-CHARACTER.false named (sym c.is_control.ensures ∙ c.if-is_control.false))
    (widen c.put_quoted.ensures 22 (omega arith))
