-- `machine::int_in` meets its contract. Assumes nothing.
use Rattle.text.proofs.ReadingLaws.{takes_is}
use Rattle.text.specs.Input.{int_of, whole_line}
use Rattle.machine.specs.Machine.{given, take_number}
use Rattle.machine.proofs.Executing.{waits, takes_number}
use Rattle.machine.proofs.Executing as Law
use Rattle.machine.proofs.int_in.Goals as goal

pub returns-then-terms : goal.returns-then-terms
returns-then-terms c =
    λ kinds values h.
    rw c.at_wait.ensures
    (waits c.args.stack.now kinds values c.args.at (record { lies = c.requires.lies; holds = h; valid = c.requires.valid }) int_of whole_line take_number
    (given c.args.terms c.args.input.now) c.if-terms.true)

pub returns : goal.returns
returns c =
    let t = c.int_in-taken in
    Law.reads int_of whole_line take_number (given c.args.terms c.args.input.now) t.result c.args.stack.now c.take.new.stack c.args.at
    c.take.result c.if-terms.false
    (takes_is int_of whole_line c.args.input.now c.args.at.reading.used t.result t.ensures)
    (takes_number t.result c.args.stack.now c.take.new.stack c.args.at c.take.result
    (rw (c.at_skips.ensures, c.after.ensures) at c.take.ensures))
