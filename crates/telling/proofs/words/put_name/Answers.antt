-- `telling::words::put_name` meets its contract: one word of twelve, or that of a pairing.
-- Assumes nothing.
use native.Mathlib.Omega.{arith}
use Rattle.report.proofs.Writing.{wrote, widen}
use Rattle.telling.specs.Words.{name_of}
use Rattle.telling.proofs.words.put_name.Goals as goal

pub returns-in-Nothing : goal.returns-in-Nothing
unfolding name_of
returns-in-Nothing c =
    rw c.in-Nothing.is (wrote c.put_word.ensures 7 (omega arith))

pub returns-in-Push : goal.returns-in-Push
unfolding name_of
returns-in-Push c =
    rw c.in-Push.is (wrote c.put_word-in-Push.ensures 7 (omega arith))

pub returns-in-Pop : goal.returns-in-Pop
unfolding name_of
returns-in-Pop c =
    rw c.in-Pop.is (wrote c.put_word-in-Pop.ensures 7 (omega arith))

pub returns-in-Pair : goal.returns-in-Pair
returns-in-Pair c =
    rw c.in-Pair.is (widen c.put_pairing.ensures 7 (omega arith))

pub returns-in-Not : goal.returns-in-Not
unfolding name_of
returns-in-Not c =
    rw c.in-Not.is (wrote c.put_word-in-Not.ensures 7 (omega arith))

pub returns-in-Ptr : goal.returns-in-Ptr
unfolding name_of
returns-in-Ptr c =
    rw c.in-Ptr.is (wrote c.put_word-in-Ptr.ensures 7 (omega arith))

pub returns-in-Swi : goal.returns-in-Swi
unfolding name_of
returns-in-Swi c =
    rw c.in-Swi.is (wrote c.put_word-in-Swi.ensures 7 (omega arith))

pub returns-in-Dup : goal.returns-in-Dup
unfolding name_of
returns-in-Dup c =
    rw c.in-Dup.is (wrote c.put_word-in-Dup.ensures 7 (omega arith))

pub returns-in-Roll : goal.returns-in-Roll
unfolding name_of
returns-in-Roll c =
    rw c.in-Roll.is (wrote c.put_word-in-Roll.ensures 7 (omega arith))

pub returns-in-CharIn : goal.returns-in-CharIn
unfolding name_of
returns-in-CharIn c =
    rw c.in-CharIn.is (wrote c.put_word-in-CharIn.ensures 7 (omega arith))

pub returns-in-CharOut : goal.returns-in-CharOut
unfolding name_of
returns-in-CharOut c =
    rw c.in-CharOut.is (wrote c.put_word-in-CharOut.ensures 7 (omega arith))

pub returns-in-IntIn : goal.returns-in-IntIn
unfolding name_of
returns-in-IntIn c =
    rw c.in-IntIn.is (wrote c.put_word-in-IntIn.ensures 7 (omega arith))

pub returns-in-IntOut : goal.returns-in-IntOut
unfolding name_of
returns-in-IntOut c =
    rw c.in-IntOut.is (wrote c.put_word-in-IntOut.ensures 7 (omega arith))
