-- `colour::decode::decode_in` meets its contract: the table has the rule's entry at each pair of colours; a number above 19 is not
-- below 18, so that the rule gives none. Assumes nothing.
use mathlib.Core.Bool.{and-false}
use native.Mathlib.Omega.{arith}
use borrow.Author.Tests.{le-ltb}
use lib.Dec.{ltb}
use Rattle.colour.specs.Decode.{decode_of}
use Rattle.colour.proofs.decode.decode_in.Goals as goal

pub returns-then-from-gt19 : goal.returns-then-from-gt19
unfolding decode_of
returns-then-from-gt19 c = rw (le-ltb c.args.from 18 (omega arith))

pub returns-then-to-gt19 : goal.returns-then-to-gt19
unfolding decode_of
returns-then-to-gt19 c = let a = c.args in rw (le-ltb a.to 18 (omega arith), and-false (ltb a.from 18))
