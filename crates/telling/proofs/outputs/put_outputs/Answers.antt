use mathlib.Core.Path.{◌≡◌}
use Prim.Native.Nat.{◌+◌, ◌*◌}
use native.Mathlib.Omega.{arith}
use lib.IntN.{pos}
use borrow.Author.Rules.{rules}
use lib.ListN.{get_or}
use mir.Syntax.{w64}
use mir.ValLaws.{to_z-of_z}
use Rattle.machine.specs.Output.{outs_of}
use Rattle.report.proofs.Writing.{put_none, wrote, widen, wrote_length, wrote_room, wrote_then}
use Rattle.telling.specs.Outputs.{output_text}
use Rattle.telling.proofs.OutputLaws.{output_turn}
use Rattle.telling.proofs.outputs.put_outputs.Goals as goal

pub loop-i-init : goal.loop-i-init
unfolding output_text outs_of
loop-i-init c = (omega arith, wrote (put_none _ _) 0 (omega arith))

pub put_emit-next-requires : goal.put_emit-next-requires
put_emit-next-requires c =
    let a = c.args in
    let l = c.loop-i in
    let h = c.requires.1 in
    let k = l.invariant.0 in
    let t = c.loop-i-test.true in
    wrote_room 20 l.invariant.1 (omega arith)

pub loop-i-preserved : goal.loop-i-preserved
loop-i-preserved c =
    let a = c.args in
    let l = c.loop-i in
    let h = c.requires.1 in
    let k = l.invariant.0 in
    let t = c.loop-i-test.true in
    let x = get_or a.values.now l.i (pos 0) in
    let e = to_z-of_z w64 x (record { sfits = search rules }) in (
      omega arith,
      widen (rw (output_turn a.kinds.now a.values.now l.i) at (wrote_then l.invariant.1 (rw e at c.put_emit-next.ensures) (omega arith))) (20 * (l.i + 1)) (omega arith),
    )

pub shape_of-out : goal.shape_of-out
shape_of-out c =
    let h = c.requires.1 in
    let k = c.loop-i.invariant.0 in
    wrote_length c.loop-i.invariant.1 (omega arith)

pub returns : goal.returns
returns c =
    let k = c.loop-i.invariant.0 in
    let z : c.loop-i.i ≡ c.args.count = omega (arith, c.loop-i-test.false) in
    rw z at c.loop-i.invariant.1
