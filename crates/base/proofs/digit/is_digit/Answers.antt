-- `base::digit::is_digit` meets its contract: its two tests are the definition's.
-- Assumes nothing.
use borrow.Author.Tests.{le-leb, lt-leb}
use Rattle.base.specs.Text.{digit}
use Rattle.base.proofs.digit.is_digit.Goals as goal

pub returns-then-b-lt48 : goal.returns-then-b-lt48
unfolding digit
returns-then-b-lt48 c = rw (lt-leb _ _ c.if-b-lt48.true)

pub returns : goal.returns
unfolding digit
returns c = rw (le-leb _ _ c.if-b-lt48.false)
