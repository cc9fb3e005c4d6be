-- `machine::take` meets its contract. Assumes nothing.
use Rattle.word.proofs.Signed.{back}
use Rattle.machine.proofs.Executing.{pushed, skipped, bad}
use Rattle.machine.proofs.take.Goals as goal

pub returns-in-Push : goal.returns-in-Push
returns-in-Push c =
    λ kinds values h.
    let g = c.grow in
    rw (c.in-Push.is, c.after_growth.ensures, c.at_used.ensures)
    (pushed c.args.stack.now kinds values c.args.at
    (record { lies = c.requires.lies; holds = h; valid = c.requires.valid }) c.in-Push.value c.in-Push.next g.new.stack g.result
    (rw (back c.in-Push.value c.in-Push.known_told-1-own.given.0.1) at g.ensures) g.auto.stack)

pub returns-in-Skip : goal.returns-in-Skip
returns-in-Skip c =
    λ kinds values h.
    rw (c.in-Skip.is, c.at_used-in-Skip.ensures)
    (skipped c.args.stack.now kinds values c.args.at (record { lies = c.requires.lies; holds = h; valid = c.requires.valid }) c.in-Skip.next _)

pub returns-in-BadInput : goal.returns-in-BadInput
returns-in-BadInput c =
    λ kinds values h.
    rw c.in-BadInput.is
    (bad c.args.stack.now kinds values c.args.at (record { lies = c.requires.lies; holds = h; valid = c.requires.valid }))
