-- `telling::words::put_cc` meets its contract: one word or the other.
-- Assumes nothing.
use mathlib.Core.Path.{◌≡◌}
use native.Mathlib.Omega.{arith}
use Rattle.report.proofs.Writing.{wrote}
use Rattle.telling.proofs.words.put_cc.Goals as goal

pub returns-then-cc-eq0 : goal.returns-then-cc-eq0
returns-then-cc-eq0 c =
    rw c.if-cc-eq0.true (wrote c.put_word.ensures 5 (omega arith))

pub returns : goal.returns
returns c =
    let e : c.args.cc ≡ 1 = omega arith in
    rw e (wrote c.put_word-2.ensures 5 (omega arith))
