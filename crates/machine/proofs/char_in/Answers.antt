-- `machine::char_in` meets its contract. Assumes nothing.
use Rattle.text.proofs.ReadingLaws.{takes_is}
use Rattle.text.specs.Input.{char_of, char_next}
use Rattle.machine.specs.Machine.{given, take}
use Rattle.machine.proofs.Executing.{waits}
use Rattle.machine.proofs.Executing as Law
use Rattle.machine.proofs.char_in.Goals as goal

pub returns-then-terms : goal.returns-then-terms
returns-then-terms c =
    λ kinds values h.
    rw c.at_wait.ensures
    (waits c.args.stack.now kinds values c.args.at (record { lies = c.requires.lies; holds = h; valid = c.requires.valid }) char_of (char_next c.args.terms.edition) take
    (given c.args.terms c.args.input.now) c.if-terms.true)

pub returns : goal.returns
returns c =
    let t = c.char_in in
    Law.reads char_of (char_next c.args.terms.edition) take (given c.args.terms c.args.input.now) t.result c.args.stack.now c.take.new.stack c.args.at
    c.take.result c.if-terms.false
    (takes_is char_of (char_next c.args.terms.edition) c.args.input.now c.args.at.reading.used t.result t.ensures) c.take.ensures
