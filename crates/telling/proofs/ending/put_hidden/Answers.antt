-- `telling::ending::put_hidden` meets its contract: one line, where its count is not 0.
-- Assumes nothing.
use native.Mathlib.Omega.{arith}
use Rattle.report.proofs.Writing.{widen}
use Rattle.telling.specs.Ending.{hidden_text}
use Rattle.telling.proofs.ending.put_hidden.Goals as goal

pub returns : goal.returns
unfolding hidden_text
returns c =
    widen c.put_unless_none.ensures 56 (omega arith)
