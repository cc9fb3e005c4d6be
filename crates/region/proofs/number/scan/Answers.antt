use mathlib.Core.Path.{◌≡◌}
use Prim.Native.Nat.{◌*◌}
use native.Mathlib.Omega.{arith}
use Rattle.region.proofs.number.scan.Goals as goal

pub returns : goal.returns
returns c =
    let the-args = c.args in
    let all : c.loop-i.i ≡ the-args.grid.shape.rows * the-args.grid.shape.cols = omega (arith, c.loop-i.auto.i-end, c.loop-i-test.false) in
    rw all at c.loop-i.invariant.0
