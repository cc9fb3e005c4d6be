-- `telling::ending::put_unless_none` meets its contract: nothing of 0, else a line.
-- Assumes nothing.
use native.Mathlib.Omega.{arith}
use Rattle.report.proofs.Writing.{put_none, wrote}
use Rattle.telling.proofs.CountLaws.{unless-none, unless_some}
use Rattle.telling.proofs.ending.put_unless_none.Goals as goal

pub returns-then-n-eq0 : goal.returns-then-n-eq0
returns-then-n-eq0 c =
    rw (unless-none c.args.word.now c.args.n c.if-n-eq0.true) (wrote (put_none _ _) _ (omega arith))

pub returns : goal.returns
returns c =
    rw (unless_some c.args.word.now c.args.n (omega arith)) c.put_line.ensures
