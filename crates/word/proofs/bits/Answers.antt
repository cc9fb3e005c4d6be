-- `word::bits` meets its contract. Assumes nothing.
use Rattle.std.proofs.Common.{◌∙◌, to_z-of_z}
use lib.Signed.{nat_abs-le}
use Rattle.word.proofs.Wrapping.{bits_are}
use Rattle.word.proofs.bits.Goals as goal

pub returns : goal.returns
returns c = rw (to_z-of_z c.ranges.x) at c.cast_unsigned.ensures ∙ bits_are c.args.x (nat_abs-le c.args.x c.ranges.x.sfits)
