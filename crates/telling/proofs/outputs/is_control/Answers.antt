-- `telling::outputs::is_control` meets its contract: by the three tests.
-- Assumes nothing.
use mathlib.Core.Path.{sym}
use native.Mathlib.Omega.{arith}
use Rattle.telling.proofs.CharLaws.{control_low, control_none, control_rest}
use Rattle.telling.proofs.outputs.is_control.Goals as goal

pub returns-then-c-lt32 : goal.returns-then-c-lt32
returns-then-c-lt32 c = sym (control_low c.args.c c.if-c-lt32.true)

pub returns-then-c-lt127 : goal.returns-then-c-lt127
returns-then-c-lt127 c =
    sym (control_none c.args.c (omega arith) c.if-c-lt127.true)

pub returns : goal.returns
returns c =
    sym (control_rest c.args.c (omega arith))
