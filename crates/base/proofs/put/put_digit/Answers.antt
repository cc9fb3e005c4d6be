-- `base::put::put_digit` meets its contract: one byte is written.
-- Assumes nothing.
use Rattle.base.proofs.Over.{over_one}
use borrow.Author.Rules.{rules}
use Rattle.base.proofs.put.put_digit.Goals as goal

pub returns : goal.returns
returns c = record { next = search rules; list = over_one _ _ _ c.requires.1 }
