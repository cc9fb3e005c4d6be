-- `interpreter::stepping::go_through` meets its contract. What the instruction came to is what the step comes to. Assumes nothing.
use mathlib.Core.Path.{◌≡◌, subst}
use native.Mathlib.Omega.{arith}
use Rattle.std.specs.Prelude.{Result}
use Rattle.machine.specs.declared.Core.{Core}
use Rattle.machine.specs.declared.Stop.{Stop}
use Rattle.machine.specs.Machine.{Given, given, exec}
use Rattle.machine.specs.Held.{Slices, slices, Execs, at_pointers}
use Rattle.interpreter.specs.Table.{pointers_of, op_of}
use Rattle.table.specs.Layout.{size_of}
use Rattle.interpreter.proofs.StepLaws.{stands_in, moved, halted}
use Rattle.std.proofs.lemmas.Result.{err_from_is_err_and}
use Rattle.interpreter.proofs.stepping.go_through.Goals as goal

pub exec-requires : goal.exec-requires
exec-requires c =
    rw (c.at_pointers.ensures, c.of_number-p.ensures, c.state_of.ensures)
    (record {
      stands = stands_in _ _ _ c.requires.placed.stands (omega arith);
      countable = omega (arith, c.requires.placed.few, c.requires.w_nonzero.2);
      judged_in = c.requires.judged_in;
    })

pub returns : goal.returns
returns c =
    let what : Given = given c.args.terms c.args.input.now in
    let held : Slices = slices c.args.stack.now c.args.kinds.now c.args.values.now in
    let left : Slices = slices c.exec.new.stack c.exec.new.kinds c.exec.new.values in
    let went : (r : Result Core Stop) → c.exec.result ≡ r → Execs (exec what (size_of c.args.rows.now c.args.at.region) (op_of c.args.w)) held (at_pointers (pointers_of c.args.w) c.args.at.core) left r = λ r q. subst (Execs _ _ _ _) q
    (rw (
      c.from-op.ensures,
      c.at_pointers.ensures,
      c.of_number-p.ensures,
      c.instruction_of.ensures,
      c.state_of.ensures,
      c.row_cell-cell.ensures,
    )
    at c.exec.ensures) in
    λ exits.
    rw c.target_of-target.ensures
    (moved c.args.rows.now exits what c.args.n held c.args.at c.args.w left c.in_ok-next.next
    (went _ c.in_ok-next.was) c.requires.w_nonzero.1 c.requires.placed.few)

pub returns-in_err-next : goal.returns-in_err-next
returns-in_err-next c =
    let p = err_from_is_err_and c.from_residual.result c.from_residual.ensures.1 in
    let what : Given = given c.args.terms c.args.input.now in
    let held : Slices = slices c.args.stack.now c.args.kinds.now c.args.values.now in
    let left : Slices = slices c.exec.new.stack c.exec.new.kinds c.exec.new.values in
    let went : (r : Result Core Stop) → c.exec.result ≡ r → Execs (exec what (size_of c.args.rows.now c.args.at.region) (op_of c.args.w)) held (at_pointers (pointers_of c.args.w) c.args.at.core) left r = λ r q. subst (Execs _ _ _ _) q
    (rw (
      c.from-op.ensures,
      c.at_pointers.ensures,
      c.of_number-p.ensures,
      c.instruction_of.ensures,
      c.state_of.ensures,
      c.row_cell-cell.ensures,
    )
    at c.exec.ensures) in
    λ exits.
    rw (p.1, p.2) (halted c.args.rows.now exits what c.args.n held c.args.at c.args.w left _
    (went _ c.in_err-next.was))
