-- `word::from_bits` meets its contract. Assumes nothing.
use Rattle.std.proofs.Common.{◌∙◌}
use Rattle.word.proofs.Signed.{back, toZ_signed64}
use Rattle.word.proofs.from_bits.Goals as goal

pub returns : goal.returns
returns c = back c.cast_signed.result c.cast_signed.type_inv ∙ c.cast_signed.ensures ∙ toZ_signed64 c.args.u
