-- `telling::words::put_pairing` meets its contract: one word of six.
-- Assumes nothing.
use native.Mathlib.Omega.{arith}
use Rattle.report.proofs.Writing.{wrote}
use Rattle.telling.specs.Words.{name_of}
use Rattle.telling.proofs.words.put_pairing.Goals as goal

pub returns-in-Add : goal.returns-in-Add
unfolding name_of
returns-in-Add c =
    rw c.in-Add.is (wrote c.put_word.ensures 3 (omega arith))

pub returns-in-Sub : goal.returns-in-Sub
unfolding name_of
returns-in-Sub c =
    rw c.in-Sub.is (wrote c.put_word-in-Sub.ensures 3 (omega arith))

pub returns-in-Mul : goal.returns-in-Mul
unfolding name_of
returns-in-Mul c =
    rw c.in-Mul.is (wrote c.put_word-in-Mul.ensures 3 (omega arith))

pub returns-in-Div : goal.returns-in-Div
unfolding name_of
returns-in-Div c =
    rw c.in-Div.is (wrote c.put_word-in-Div.ensures 3 (omega arith))

pub returns-in-Mod : goal.returns-in-Mod
unfolding name_of
returns-in-Mod c =
    rw c.in-Mod.is (wrote c.put_word-in-Mod.ensures 3 (omega arith))

pub returns-in-Gt : goal.returns-in-Gt
unfolding name_of
returns-in-Gt c =
    rw c.in-Gt.is (wrote c.put_word-in-Gt.ensures 3 (omega arith))
