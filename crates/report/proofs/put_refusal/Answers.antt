-- `report::put_refusal` meets its contract: one line at the start.
-- Assumes nothing.
use Rattle.report.specs.Text.{refusal_text}
use Rattle.report.proofs.put_refusal.Goals as goal

pub returns : goal.returns
unfolding refusal_text
returns c = c.put_line.ensures.put
