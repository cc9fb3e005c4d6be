-- `shade::put_codel` meets its contract: a number, and one byte after it.
-- Assumes nothing.
use native.Mathlib.Omega.{arith}
use Rattle.base.specs.Text.{decimal}
use Rattle.report.specs.Wrote.{Wrote}
use Rattle.report.proofs.Writing.{wrote, room_of_lem, wrote_room, wrote_then}
use Rattle.report.proofs.TextLaws.{decimal_long}
use Rattle.shade.proofs.put_codel.Goals as goal

pub put_number-next-requires : goal.put_number-next-requires
put_number-next-requires c =
    room_of_lem (decimal c.args.times) 20 (decimal_long c.args.times c.ranges.times.fits) (omega arith)

pub put_word-requires : goal.put_word-requires
put_word-requires c =
    let numbered : Wrote c.args.out.now c.args.at (decimal c.args.times) c.put_number-next.result c.put_number-next.new.out 20 = wrote c.put_number-next.ensures 20 (decimal_long c.args.times c.ranges.times.fits) in
    record { enough = wrote_room 1 numbered c.requires }

pub returns-then-last : goal.returns-then-last
returns-then-last c =
    let numbered : Wrote c.args.out.now c.args.at (decimal c.args.times) c.put_number-next.result c.put_number-next.new.out 20 = wrote c.put_number-next.ensures 20 (decimal_long c.args.times c.ranges.times.fits) in
    rw c.if-last.true (wrote_then numbered (wrote c.put_word.ensures 1 (omega arith)) c.requires)

pub put_word-requires-2 : goal.put_word-requires-2
put_word-requires-2 c =
    let numbered : Wrote c.args.out.now c.args.at (decimal c.args.times) c.put_number-next.result c.put_number-next.new.out 20 = wrote c.put_number-next.ensures 20 (decimal_long c.args.times c.ranges.times.fits) in
    record { enough = wrote_room 1 numbered c.requires }

pub returns : goal.returns
returns c =
    let numbered : Wrote c.args.out.now c.args.at (decimal c.args.times) c.put_number-next.result c.put_number-next.new.out 20 = wrote c.put_number-next.ensures 20 (decimal_long c.args.times c.ranges.times.fits) in
    rw c.if-last.false (wrote_then numbered (wrote c.put_word-2.ensures 1 (omega arith)) c.requires)
