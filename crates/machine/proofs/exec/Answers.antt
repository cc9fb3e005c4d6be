-- `machine::exec` meets its contract. Assumes nothing.
use mathlib.Core.Path.{refl}
use native.Mathlib.Omega.{arith}
use lib.IntN.{pos}
use mir.Syntax.{w64}
use mir.Facts.{to_z_pos}
use Rattle.flow.proofs.Order.{valid_rotated, valid_switched}
use Rattle.flow.specs.Pointer.{rotated, switched}
use Rattle.stack.specs.Instr as Instr
use Rattle.machine.specs.Machine.{exec}
use Rattle.machine.specs.Output.{char_out, int_out}
use Rattle.machine.proofs.Executing.{unmoved, stack_kept, grown, wrote}
use Rattle.machine.proofs.exec.Goals as goal

pub returns-in-Nothing : goal.returns-in-Nothing
unfolding exec
returns-in-Nothing c =
    rw c.in-Nothing.is (unmoved c.args.stack.now c.args.kinds.now c.args.values.now c.args.at c.requires.stands _ refl)

pub returns-in-Push : goal.returns-in-Push
unfolding exec
returns-in-Push c =
    let g = c.grow in
    rw (c.in-Push.is, c.after_growth.ensures)
    (grown c.args.stack.now c.args.kinds.now c.args.values.now c.args.at c.requires.stands
    (Instr.push (pos c.args.size)) g.new.stack g.result
    (rw (to_z_pos w64 {n = c.args.size} (omega (arith, c.ranges.size))) at g.ensures) g.auto.stack)

pub returns-in-Pop : goal.returns-in-Pop
unfolding exec
returns-in-Pop c =
    let q = c.pop in
    rw c.in-Pop.is
    (stack_kept c.args.stack.now c.args.kinds.now c.args.values.now c.args.at c.requires.stands
    Instr.pop q.new.stack q.result q.ensures q.auto.stack)

pub returns-in-Pair : goal.returns-in-Pair
unfolding exec
returns-in-Pair c =
    let q = c.pair in
    rw c.in-Pair.is
    (stack_kept c.args.stack.now c.args.kinds.now c.args.values.now c.args.at c.requires.stands
    (Instr.pair _ c.in-Pair.pairing) q.new.stack q.result q.ensures q.auto.stack)

pub returns-in-Not : goal.returns-in-Not
unfolding exec
returns-in-Not c =
    let q = c.not in
    rw c.in-Not.is
    (stack_kept c.args.stack.now c.args.kinds.now c.args.values.now c.args.at c.requires.stands
    Instr.not q.new.stack q.result q.ensures q.auto.stack)

pub returns-in-Ptr : goal.returns-in-Ptr
unfolding exec
returns-in-Ptr c =
    rw c.in-Ptr.is (c.turn.ensures rotated (valid_rotated, (λ z p e. e.1)) c.args.kinds.now c.args.values.now c.requires.stands.holds)

pub returns-in-Swi : goal.returns-in-Swi
unfolding exec
returns-in-Swi c =
    rw c.in-Swi.is (c.turn-in-Swi.ensures switched (valid_switched, (λ z p e. e.1)) c.args.kinds.now c.args.values.now c.requires.stands.holds)

pub returns-in-Dup : goal.returns-in-Dup
unfolding exec
returns-in-Dup c =
    let g = c.double in
    rw (c.in-Dup.is, c.after_growth-in-Dup.ensures)
    (grown c.args.stack.now c.args.kinds.now c.args.values.now c.args.at c.requires.stands
    Instr.dup g.new.stack g.result g.ensures g.auto.stack)

pub returns-in-Roll : goal.returns-in-Roll
unfolding exec
returns-in-Roll c =
    let q = c.roll in
    rw c.in-Roll.is
    (stack_kept c.args.stack.now c.args.kinds.now c.args.values.now c.args.at c.requires.stands
    (Instr.roll _) q.new.stack q.result q.ensures q.auto.stack)

pub returns-in-CharIn : goal.returns-in-CharIn
unfolding exec
returns-in-CharIn c =
    rw c.in-CharIn.is (c.char_in.ensures c.args.kinds.now c.args.values.now c.requires.stands.holds)

pub returns-in-CharOut : goal.returns-in-CharOut
unfolding exec
returns-in-CharOut c =
    let r = c.char_out in
    rw (c.in-CharOut.is, c.after_output.ensures)
    (wrote c.args.stack.now c.args.kinds.now c.args.values.now c.args.at c.requires.stands
    char_out r.new.stack r.new.kinds r.new.values
    r.result r.ensures r.auto.stack r.auto.kinds r.auto.values)

pub returns-in-IntIn : goal.returns-in-IntIn
unfolding exec
returns-in-IntIn c =
    rw c.in-IntIn.is (c.int_in.ensures c.args.kinds.now c.args.values.now c.requires.stands.holds)

pub returns-in-IntOut : goal.returns-in-IntOut
unfolding exec
returns-in-IntOut c =
    let r = c.int_out in
    rw (c.in-IntOut.is, c.after_output-in-IntOut.ensures)
    (wrote c.args.stack.now c.args.kinds.now c.args.values.now c.args.at c.requires.stands
    int_out r.new.stack r.new.kinds r.new.values
    r.result r.ensures r.auto.stack r.auto.kinds r.auto.values)
