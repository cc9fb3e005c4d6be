-- `word::modulo_rust` meets its contract. Assumes nothing.
use Rattle.std.proofs.Common.{◌≡◌, ℕ, ◌^◌, ◌<◌, ◌≤◌, List, [], ◌∷◌, ℤ, pos, nat_abs, sym, refl, ap, ◌∙◌, arith, to_z-of_z, w64, ne_eqb}
use lib.Signed.{mag, nat_abs-le}
use mir.Facts.{to_z_pos}
use Rattle.word.specs.Word.{residue}
use Rattle.word.proofs.Wrapping.{residue_lt}
use Rattle.word.specs.Word.{rust_remainder}
use Rattle.word.proofs.modulo_rust.Goals as goal

pos-of-ne : (m : ℕ) → (m ≡ 0 → ⊥) → 0 < m
pos-of-ne m h = omega arith

lt_of_ne : (m k : ℕ) → m ≤ k → (m ≡ k → ⊥) → m < k
lt_of_ne m k p h = omega arith

natAbs-le64 : (z : ℤ) → mag z < 2 ^ 63 → nat_abs z ≤ 2 ^ 63
natAbs-le64 z h = nat_abs-le z h

by_zero : (b a : ℤ) → nat_abs a ≡ 0 → [] ≡ rust_remainder b a
unfolding rust_remainder
by_zero b a e = rw e refl

by-least : (b a : ℤ) → nat_abs a ≡ 2 ^ 63 → [] ≡ rust_remainder b a
unfolding rust_remainder
by-least b a e = rw e refl

kept : (b a : ℤ) → 0 < nat_abs a → nat_abs a < 2 ^ 63 → ◌≡◌ {A = List ℤ} (pos (residue b (nat_abs a)) ∷ []) (rust_remainder b a)
unfolding residue rust_remainder
kept b a p q = rw (ne_eqb (nat_abs a) 0 (λ e. omega arith), ne_eqb (nat_abs a) (2 ^ 63) (λ e. omega arith)) refl

pub returns-then-m-eq0 : goal.returns-then-m-eq0
returns-then-m-eq0 c =
    let abs_is : c.abs-m.result ≡ nat_abs c.args.a = c.abs-m.ensures ∙ ap nat_abs (to_z-of_z c.ranges.a) in
    by_zero c.args.b c.args.a (sym abs_is ∙ c.if-m-eq0.true)

pub returns-then-m : goal.returns-then-m
returns-then-m c =
    let abs_is : c.abs-m.result ≡ nat_abs c.args.a = c.abs-m.ensures ∙ ap nat_abs (to_z-of_z c.ranges.a) in
    by-least c.args.b c.args.a (sym abs_is ∙ c.if-m.true)

pub returns : goal.returns
returns c =
    let abs_is : c.abs-m.result ≡ nat_abs c.args.a = c.abs-m.ensures ∙ ap nat_abs (to_z-of_z c.ranges.a) in
    let below : (0 < c.abs-m.result) × (c.abs-m.result < 2 ^ 63) =
    let k = natAbs-le64 c.args.a c.ranges.a.sfits in
    let e = abs_is in
    let m = c.abs-m.result in
    (pos-of-ne m c.if-m-eq0.false, lt_of_ne m (2 ^ 63) (omega arith) c.if-m.false) in
    let residue-is : c.residue.result ≡ residue c.args.b c.abs-m.result = rw (to_z-of_z c.ranges.b) at c.residue.ensures in
    let l = below in
    let r = residue_lt c.args.b c.abs-m.result l.0 in
    let e = residue-is in
    rw (to_z_pos w64 {n = c.residue.result} (omega arith), e, abs_is)
    (kept c.args.b c.args.a (rw abs_is at l.0) (rw abs_is at l.1))

pub overflow_cast-result : goal.overflow_cast-result
overflow_cast-result c =
    let abs_is : c.abs-m.result ≡ nat_abs c.args.a = c.abs-m.ensures ∙ ap nat_abs (to_z-of_z c.ranges.a) in
    let below : (0 < c.abs-m.result) × (c.abs-m.result < 2 ^ 63) =
    let k = natAbs-le64 c.args.a c.ranges.a.sfits in
    let e = abs_is in
    let m = c.abs-m.result in
    (pos-of-ne m c.if-m-eq0.false, lt_of_ne m (2 ^ 63) (omega arith) c.if-m.false) in
    let residue-is : c.residue.result ≡ residue c.args.b c.abs-m.result = rw (to_z-of_z c.ranges.b) at c.residue.ensures in
    omega (arith, residue-is, residue_lt c.args.b c.abs-m.result below.0)
