-- `telling::outputs::put_scalar` meets its contract: the four forms of a code point.
-- Assumes nothing.
use native.Mathlib.Omega.{arith}
use Rattle.text.proofs.Utf8Laws.{encode1, encode2, encode3, encode4}
use Rattle.report.proofs.Writing.{widen, wrote_then}
use Rattle.telling.proofs.outputs.put_scalar.Goals as goal

pub returns-then-c-lt128 : goal.returns-then-c-lt128
returns-then-c-lt128 c =
    rw (encode1 c.args.c c.if-c-lt128.true) (widen c.put_byte.ensures 4 (omega arith))

pub returns-then-c-lt2048 : goal.returns-then-c-lt2048
returns-then-c-lt2048 c =
    let h = c.requires.1 in
    rw (encode2 c.args.c (omega arith) c.if-c-lt2048.true)
    (widen (wrote_then c.put_byte-next.ensures c.put_tail.ensures (omega arith)) 4 (omega arith))

pub returns-then-c-lt65536 : goal.returns-then-c-lt65536
returns-then-c-lt65536 c =
    rw (encode3 c.args.c (omega arith) c.if-c-lt65536.true) (widen c.put_wide.ensures 4 (omega arith))

pub returns : goal.returns
returns c =
    rw (encode4 c.args.c (omega arith)) c.put_widest.ensures
