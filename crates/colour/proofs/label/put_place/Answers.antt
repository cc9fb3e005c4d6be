-- `colour::label::put_place` meets its contract: an underscore and a number one after the other.
-- Assumes nothing.
use native.Mathlib.Omega.{arith}
use Rattle.colour.specs.Label.{place}
use Rattle.base.proofs.Over.{put_put, put_length}
use Rattle.colour.proofs.label.put_place.Goals as goal

pub put_word-next-requires : goal.put_word-next-requires
unfolding place
put_word-next-requires c = omega arith

pub put_number-requires : goal.put_number-requires
unfolding place
put_number-requires c =
    let p = c.put_word-next.ensures in
    let h = c.requires in
    omega (arith, p.next, put_length (omega (arith, h)) p)

pub returns : goal.returns
unfolding place
returns c =
    put_put (omega (arith, c.requires)) c.put_word-next.ensures c.put_number.ensures
