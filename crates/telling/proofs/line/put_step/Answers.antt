-- `telling::line::put_step` meets its contract: a number of 64 bits has at most 20 digits.
-- Assumes nothing.
use Rattle.base.specs.Text.{decimal}
use Rattle.report.proofs.TextLaws.{decimal_long}
use Rattle.report.proofs.Writing.{wrote, room_of_lem}
use Rattle.telling.proofs.line.put_step.Goals as goal

pub put_number-requires : goal.put_number-requires
put_number-requires c =
    room_of_lem (decimal c.args.step) 20 (decimal_long c.args.step c.ranges.step.fits) c.requires

pub returns : goal.returns
returns c =
    wrote c.put_number.ensures 20 (decimal_long c.args.step c.ranges.step.fits)
