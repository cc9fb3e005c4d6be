-- `exit::leave::beats_codel` meets its contract: the tests of `more`, in its order. Assumes nothing.
use Rattle.exit.proofs.LeavingLaws.{beats_further, beats_nearer, beats_side}
use Rattle.exit.proofs.leave.beats_codel.Goals as goal

pub returns-then-b-a : goal.returns-then-b-a
returns-then-b-a c = beats_further _ _ _ _ _ c.reach_of-a.ensures c.reach_of-b.ensures c.if-b-a.true

pub returns-then-a-b : goal.returns-then-a-b
returns-then-a-b c = beats_nearer _ _ _ _ _ c.reach_of-a.ensures c.reach_of-b.ensures c.if-a-b.true

pub returns : goal.returns
returns c =
    beats_side _ _ _ _ _ c.reach_of-a.ensures c.reach_of-b.ensures
    c.if-b-a.false c.if-a-b.false c.reach_of-a-2.ensures c.reach_of-b-2.ensures
