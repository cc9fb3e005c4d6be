-- `stack::combine` meets its contract: each arm is what its callee ensures. Assumes nothing.
use mathlib.Core.Path.{ap}
use mathlib.Core.List.{◌∷◌, []}
use lib.IntN.{ℤ}
use mir.Facts.{to_z-of_z}
use Rattle.word.proofs.Signed.{back}
use Rattle.stack.specs.Instr.{combined}
use Rattle.stack.proofs.combine.Goals as goal

pub returns-in-Add : goal.returns-in-Add
unfolding combined
returns-in-Add c =
    let s = c.ranges in
    rw (c.in-Add.is, back c.wrapping_add.result c.wrapping_add.type_inv)
    (ap (λ (z : ℤ). z ∷ []) (rw (to_z-of_z s.b, to_z-of_z s.a) at c.wrapping_add.ensures))

pub returns-in-Sub : goal.returns-in-Sub
unfolding combined
returns-in-Sub c =
    let s = c.ranges in
    rw (c.in-Sub.is, back c.wrapping_sub.result c.wrapping_sub.type_inv)
    (ap (λ (z : ℤ). z ∷ []) (rw (to_z-of_z s.b, to_z-of_z s.a) at c.wrapping_sub.ensures))

pub returns-in-Mul : goal.returns-in-Mul
unfolding combined
returns-in-Mul c =
    let s = c.ranges in
    rw (c.in-Mul.is, back c.wrapping_mul.result c.wrapping_mul.type_inv)
    (ap (λ (z : ℤ). z ∷ []) (rw (to_z-of_z s.b, to_z-of_z s.a) at c.wrapping_mul.ensures))

pub returns-in-Div : goal.returns-in-Div
unfolding combined
returns-in-Div c =
    let s = c.ranges in
    rw c.in-Div.is (rw (to_z-of_z s.b, to_z-of_z s.a) at c.div.ensures)

pub returns-in-Mod : goal.returns-in-Mod
unfolding combined
returns-in-Mod c =
    let s = c.ranges in
    rw c.in-Mod.is (rw (to_z-of_z s.b, to_z-of_z s.a) at c.modulo.ensures)

pub returns-in-Gt : goal.returns-in-Gt
unfolding combined
returns-in-Gt c =
    let s = c.ranges in
    rw (c.in-Gt.is, back c.above.result c.above.type_inv)
    (ap (λ (z : ℤ). z ∷ []) (rw (to_z-of_z s.b, to_z-of_z s.a) at c.above.ensures))
