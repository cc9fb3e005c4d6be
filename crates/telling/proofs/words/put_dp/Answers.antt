-- `telling::words::put_dp` meets its contract: one word of four.
-- Assumes nothing.
use mathlib.Core.Path.{◌≡◌}
use native.Mathlib.Omega.{arith}
use Rattle.report.proofs.Writing.{wrote}
use Rattle.telling.proofs.words.put_dp.Goals as goal

pub returns-in-0 : goal.returns-in-0
returns-in-0 c =
    rw c.in-0.is (wrote c.put_word.ensures 5 (omega arith))

pub returns-in-1 : goal.returns-in-1
returns-in-1 c =
    rw c.in-1.is (wrote c.put_word-in-1.ensures 5 (omega arith))

pub returns-in-2 : goal.returns-in-2
returns-in-2 c =
    rw c.in-2.is (wrote c.put_word-in-2.ensures 5 (omega arith))

pub returns-in_default : goal.returns-in_default
returns-in_default c =
    let up : c.args.dp ≡ 3 = omega (arith, c.requires.0) in
    rw up (wrote c.put_word-in_default.ensures 5 (omega arith))
