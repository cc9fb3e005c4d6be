-- `text::input::within_line` meets its contract. Assumes nothing.
use Rattle.text.specs.Input.{within_line}
use Rattle.text.proofs.Judging.{within_at}
use Rattle.text.proofs.input.within_line.Goals as goal

pub returns-then-at-eq0 : goal.returns-then-at-eq0
unfolding within_line
returns-then-at-eq0 c = rw c.if-at-eq0.true

pub returns : goal.returns
returns c =
    within_at c.args.input.now c.args.at c.if-at-eq0.false
