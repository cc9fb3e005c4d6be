-- `telling::words::put_others` meets its contract: nothing of 0, else a word, a number and a word.
-- Assumes nothing.
use native.Mathlib.Omega.{arith}
use Rattle.report.proofs.Writing.{put_none, wrote, widen, wrote_then}
use Rattle.telling.proofs.CountLaws.{others_none, others_some}
use Rattle.telling.proofs.words.put_others.Goals as goal

pub returns-then-n-eq0 : goal.returns-then-n-eq0
returns-then-n-eq0 c =
    rw (others_none c.args.n c.if-n-eq0.true) (wrote (put_none _ _) 30 (omega arith))

pub returns : goal.returns
returns c =
    let h = c.requires in
    rw (others_some c.args.n (omega arith))
    (widen (wrote_then c.put_count-a.ensures (wrote c.put_word.ensures 5 (omega arith)) (omega arith)) 30 (omega arith))
