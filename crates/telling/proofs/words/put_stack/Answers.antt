-- `telling::words::put_stack` meets its contract: no value, all of them, or the top eight and how many more.
-- Assumes nothing.
use native.Mathlib.Omega.{arith}
use Rattle.report.proofs.Writing.{wrote, widen, wrote_then}
use Rattle.telling.proofs.StackLaws.{none_shown, all_shown, eight_shown}
use Rattle.telling.proofs.words.put_stack.Goals as goal

pub returns-then-depth-eq0 : goal.returns-then-depth-eq0
returns-then-depth-eq0 c =
    rw (none_shown c.args.stack.now c.args.depth c.if-depth-eq0.true) (wrote c.put_word.ensures 198 (omega arith))

pub returns-then-depth-le-SHOWN : goal.returns-then-depth-le-SHOWN
returns-then-depth-le-SHOWN c =
    rw (all_shown c.args.stack.now c.args.depth (omega arith) c.if-depth-le-SHOWN.true) (widen c.put_values.ensures 198 (omega arith))

pub returns : goal.returns
returns c =
    let h = c.requires.1 in
    rw (eight_shown c.args.stack.now c.args.depth (omega arith))
    (wrote_then c.put_values-next.ensures c.put_others.ensures (omega arith))
