-- `word::div` meets its contract. Assumes nothing.
use Rattle.std.proofs.Common.{◌≡◌, List, [], ◌∷◌, ℤ, pos, refl, ap, ◌∙◌, arith, to_z-of_z, w64, of_z}
use lib.Signed.{nat_abs-le, quot_z}
use mir.Facts.{sfits_lit}
use Rattle.word.specs.Word.{wrap, is_zero, quotient}
use Rattle.word.proofs.Signed.{back, same_bits, is_not_zero}
use Rattle.word.proofs.Wrapping.{wraps, quot_abs}
use Rattle.word.proofs.div.Goals as goal

zero-gone : (b a : ℤ) → a ≡ pos 0 → [] ≡ quotient b a
unfolding quotient is_zero
zero-gone b a e = rw e refl

kept : (b a : ℤ) {r : ℤ} → (a ≡ pos 0 → ⊥) → r ≡ wrap (quot_z b a) → ◌≡◌ {A = List ℤ} (r ∷ []) (quotient b a)
unfolding quotient
kept b a h e = rw (is_not_zero a h) (ap (λ (z : ℤ). z ∷ []) e)

pub returns-then-a-eq0 : goal.returns-then-a-eq0
returns-then-a-eq0 c = zero-gone c.args.b c.args.a (same_bits c.ranges.a (sfits_lit tt) c.if-a-eq0.true)

pub returns : goal.returns
returns c =
    let b = c.args.b in
    let a = c.args.a in
    let fits = nat_abs-le b c.ranges.b.sfits in
    rw (back c.wrapping_div.result c.wrapping_div.type_inv)
    (kept b a (λ e. c.if-a-eq0.false (ap (of_z w64) e))
    (rw (to_z-of_z c.ranges.b, to_z-of_z c.ranges.a) at c.wrapping_div.ensures ∙ wraps (quot_z b a) (omega (arith, quot_abs b a))))
