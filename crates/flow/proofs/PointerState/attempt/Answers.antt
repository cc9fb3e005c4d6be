-- `flow::PointerState::attempt` meets its contract: its form is the order of rule 4.5, computed over all eight states.
-- Assumes nothing.
use Rattle.flow.proofs.Order.{attempted_is}
use Rattle.flow.proofs.PointerState.attempt.Goals as goal

pub returns : goal.returns
returns c =
    attempted_is c.args.self c.args.k c.requires.0 c.requires.1
