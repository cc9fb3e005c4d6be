use mathlib.Core.Path.{◌≡◌, ap}
use Prim.Native.Nat.{ℕ, ◌-◌, ◌*◌}
use native.Mathlib.Omega.{arith}
use lib.IntN.{pos}
use borrow.Author.Rules.{rules}
use lib.ListN.{get_or}
use mir.Syntax.{w64}
use mir.ValLaws.{to_z-of_z}
use Rattle.stack.specs.Stack.{stack_of}
use Rattle.report.specs.Text.{value, values}
use Rattle.report.proofs.Writing.{widen}
use Rattle.report.proofs.Partly.{partly_none, partly_room, partly_more, partly_length, partly_all}
use Rattle.report.proofs.TextLaws.{values_turn}
use Rattle.report.proofs.put_values.Goals as goal

pub loop-i-init : goal.loop-i-init
loop-i-init c = (omega arith, partly_none _ _ _ _)

pub put_value-next-requires : goal.put_value-next-requires
put_value-next-requires c =
    let a = c.args in
    let l = c.loop-i in
    let h = c.requires.1 in
    let k = l.invariant.0 in
    let t = c.loop-i-test.true in
    partly_room l.invariant.1 21 (omega arith)

pub loop-i-preserved : goal.loop-i-preserved
loop-i-preserved c =
    let a = c.args in
    let l = c.loop-i in
    let h = c.requires.1 in
    let k = l.invariant.0 in
    let t = c.loop-i-test.true in
    let x = get_or a.stack.now (l.i - 1) (pos 0) in
    let e = to_z-of_z w64 x (record { sfits = search rules }) in (
      omega arith,
      partly_more l.invariant.1 (value x) (values (stack_of a.stack.now (l.i - 1))) (values_turn a.stack.now l.i t)
          (rw e at c.put_value-next.ensures) (21 * (a.depth - (l.i - 1))) (omega arith) (omega arith),
    )

pub shape_of-out : goal.shape_of-out
shape_of-out c =
    let a = c.args in
    let l = c.loop-i in
    let h = c.requires.1 in
    let k = l.invariant.0 in
    partly_length l.invariant.1 (omega arith)

pub returns : goal.returns
unfolding values stack_of
returns c =
    let a = c.args in
    let l = c.loop-i in
    let h = c.requires.1 in
    let k = l.invariant.0 in
    let z : l.i ≡ 0 = omega (arith, c.loop-i-test.false) in
    widen (partly_all l.invariant.1 (ap (λ (i : ℕ). values (stack_of a.stack.now i)) z)) (21 * a.depth) (omega arith)
