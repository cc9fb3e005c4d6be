use mathlib.Core.Path.{◌≡◌}
use Prim.Native.Nat.{◌+◌, ◌*◌}
use native.Mathlib.Omega.{arith}
use lib.IntN.{pos}
use borrow.Author.Rules.{rules}
use lib.ListN.{get_or}
use mir.Syntax.{w64}
use mir.ValLaws.{to_z-of_z}
use Rattle.machine.specs.Output.{outs_of}
use Rattle.report.specs.Text.{items}
use Rattle.report.proofs.Writing.{put_none, wrote, widen, wrote_length, wrote_room, wrote_then}
use Rattle.report.proofs.TextLaws.{items_turn}
use Rattle.report.proofs.put_items.Goals as goal

pub loop-i-init : goal.loop-i-init
unfolding items outs_of
loop-i-init c = (omega arith, wrote (put_none _ _) 0 (omega arith))

pub put_item-next-requires : goal.put_item-next-requires
put_item-next-requires c =
    let a = c.args in
    let l = c.loop-i in
    let h = c.requires.1 in
    let k = l.invariant.0 in
    let t = c.loop-i-test.true in
    wrote_room 22 l.invariant.1 (omega arith)

pub loop-i-preserved : goal.loop-i-preserved
loop-i-preserved c =
    let a = c.args in
    let l = c.loop-i in
    let h = c.requires.1 in
    let k = l.invariant.0 in
    let t = c.loop-i-test.true in
    let x = get_or a.numbers.now l.i (pos 0) in
    let e = to_z-of_z w64 x (record { sfits = search rules }) in (
      omega arith,
      widen (rw (items_turn a.kinds.now a.numbers.now l.i) at (wrote_then l.invariant.1 (rw e at c.put_item-next.ensures) (omega arith))) (22 * (l.i + 1)) (omega arith),
    )

pub shape_of-out : goal.shape_of-out
shape_of-out c =
    let a = c.args in
    let l = c.loop-i in
    let h = c.requires.1 in
    let k = l.invariant.0 in
    wrote_length l.invariant.1 (omega arith)

pub returns : goal.returns
returns c =
    let a = c.args in
    let l = c.loop-i in
    let h = c.requires.1 in
    let k = l.invariant.0 in
    let z : l.i ≡ a.count = omega (arith, c.loop-i-test.false) in
    rw z at l.invariant.1
