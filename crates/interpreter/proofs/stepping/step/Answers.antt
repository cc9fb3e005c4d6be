-- `interpreter::stepping::step` meets its contract. The stops in their order, and else the step through the exit taken. Assumes nothing.
use mathlib.Core.Path.{◌≡◌, sym, ◌∙◌}
use mathlib.Core.Bool.{false}
use Rattle.machine.specs.Machine.{Given, given}
use Rattle.machine.specs.Held.{Slices, slices}
use Rattle.interpreter.specs.Table.{ends}
use Rattle.interpreter.proofs.StepLaws.{needs_input, completed, taken, some_exit, inside_exit}
use Rattle.interpreter.proofs.stepping.step.Goals as goal

pub returns-then-core : goal.returns-then-core
returns-then-core c =
    let what : Given = given c.args.terms c.args.input.now in
    let held : Slices = slices c.args.stack.now c.args.kinds.now c.args.values.now in
    needs_input c.args.table.rows.now c.args.table.exits.now what c.args.table.n held c.args.at c.if-core.true

pub returns-then-ends : goal.returns-then-ends
returns-then-ends c =
    let what : Given = given c.args.terms c.args.input.now in
    let held : Slices = slices c.args.stack.now c.args.kinds.now c.args.values.now in
    completed c.args.table.rows.now c.args.table.exits.now what c.args.table.n held c.args.at c.if-core.false
    c.open_exit-w.result c.open_exit-w.ensures (sym c.ends.ensures ∙ c.if-ends.true)

pub go_through-requires : goal.go_through-requires
go_through-requires c =
    let going : ends c.open_exit-w.result ≡ false = sym c.ends.ensures ∙ c.if-ends.false in
    let p = c.requires in
    record {
      n_bound = (c.args.table.good.few, c.args.table.good.rows_fit);
      placed = p.placed;
      judged_in = p.judged_in;
      w_nonzero = (
        some_exit _ going,
        rw c.open_exit-w.ensures (inside_exit c.args.table.good _ _ p.placed.stands.valid p.placed.inside),
        p.steps_bound,
      );
    }

pub returns : goal.returns
returns c =
    let what : Given = given c.args.terms c.args.input.now in
    let held : Slices = slices c.args.stack.now c.args.kinds.now c.args.values.now in
    let going : ends c.open_exit-w.result ≡ false = sym c.ends.ensures ∙ c.if-ends.false in
    let w = c.go_through in
    taken c.args.table.rows.now c.args.table.exits.now what c.args.table.n held c.args.at c.if-core.false c.open_exit-w.result
    c.open_exit-w.ensures (slices w.new.stack w.new.kinds w.new.values) w.result
    going (w.ensures c.args.table.exits.now)
