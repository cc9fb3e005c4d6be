use mathlib.Core.Path.{◌≡◌, subst}
use Prim.Native.Nat.{ℕ, ◌+◌, ◌-◌, ◌^◌, ◌<◌}
use native.Mathlib.Omega.{arith}
use lib.ListN.{get_or}
use Rattle.job.specs.Reading.{Field}
use Rattle.job.proofs.Bytes.{field_none, field_more, field_small}
use Rattle.job.proofs.number_at.Goals as goal

pub loop-i-init : goal.loop-i-init
loop-i-init c =
    let a = c.args in
    let e : a.k - a.k ≡ 0 = omega arith in
    (omega arith, rw e (field_none a.job.now (a.at + a.k)))

pub overflow_mul-n : goal.overflow_mul-n
overflow_mul-n c =
    let small : c.loop-i.n < 2 ^ 56 = field_small c.loop-i.invariant.1 (omega arith) in
    omega (arith, small)

pub overflow_add-n-in-loop-i : goal.overflow_add-n-in-loop-i
overflow_add-n-in-loop-i c =
    let byte : get_or c.args.job.now (c.args.at + (c.loop-i.i - 1)) 0 < 256 = omega (arith, c.type_inv.job (c.args.at + (c.loop-i.i - 1))) in
    let small : c.loop-i.n < 2 ^ 56 = field_small c.loop-i.invariant.1 (omega arith) in
    omega (arith, byte, small)

pub loop-i-preserved : goal.loop-i-preserved
loop-i-preserved c =
    let byte : get_or c.args.job.now (c.args.at + (c.loop-i.i - 1)) 0 < 256 = omega (arith, c.type_inv.job (c.args.at + (c.loop-i.i - 1))) in
    let a = c.args in
    let i = c.loop-i.i in
    let p = a.at + (i - 1) in
    let e : a.at + i ≡ p + 1 = omega arith in
    let s : a.k - i + 1 ≡ a.k - (i - 1) = omega arith in
    let f = subst (λ (m : ℕ). Field a.job.now m (a.k - i) c.loop-i.n) e c.loop-i.invariant.1 in
    (omega arith, rw s at (field_more a.job.now p (a.k - i) c.loop-i.n (omega arith) byte f))
