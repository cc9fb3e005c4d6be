-- `colour::classify::first_unknown` meets its contract: the place is that of the first unknown pixel, if there is one.
-- Assumes nothing.
use borrow.Author.Tests.{lt-ltb, le-ltb}
use Rattle.colour.specs.Classify.{unknown_pixel}
use Rattle.base.specs.Numbers.{first}
use Rattle.colour.proofs.classify.first_unknown.Goals as goal

pub returns-then-k-n : goal.returns-then-k-n
unfolding unknown_pixel first
returns-then-k-n c = rw (← c.known_first-k.ensures, lt-ltb _ _ c.if-k-n.true)

pub returns : goal.returns
unfolding unknown_pixel first
returns c = rw (← c.known_first-k.ensures, le-ltb _ _ c.if-k-n.false)
