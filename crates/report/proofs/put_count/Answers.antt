-- `report::put_count` meets its contract: a word and a number one after the other.
-- Assumes nothing.
use native.Mathlib.Nat.{le_refl}
use lib.ListN.{length}
use Rattle.base.specs.Text.{decimal}
use Rattle.report.specs.Text.{counted}
use Rattle.report.proofs.Writing.{wrote, room_of_lem, wrote_room, wrote_then}
use Rattle.report.proofs.TextLaws.{decimal_long}
use Rattle.report.proofs.put_count.Goals as goal

pub put_number-requires : goal.put_number-requires
put_number-requires c =
    let k = length c.args.word.now in
    room_of_lem (decimal c.args.n) 20 (decimal_long c.args.n c.ranges.n.fits) (wrote_room 20 (wrote c.put_word-next.ensures k (le_refl k)) c.requires)

pub returns : goal.returns
unfolding counted
returns c =
    let k = length c.args.word.now in
    wrote_then (wrote c.put_word-next.ensures k (le_refl k)) (wrote c.put_number.ensures 20 (decimal_long c.args.n c.ranges.n.fits)) c.requires
