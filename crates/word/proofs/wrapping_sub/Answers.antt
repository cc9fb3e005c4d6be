-- `word::wrapping_sub` meets its contract. Assumes nothing.
use Rattle.std.proofs.Common.{◌-ℤ◌, ◌∙◌, w64}
use Rattle.std.proofs.lemmas.Int.{wrapping_sub_is}
use Rattle.word.proofs.Wrapping.{int_wrap_is}
use Rattle.word.proofs.wrapping_sub.Goals as goal

pub returns : goal.returns
returns c = wrapping_sub_is w64 c.args.b c.args.a c.ranges.b c.ranges.a ∙ int_wrap_is (c.args.b -ℤ c.args.a)
