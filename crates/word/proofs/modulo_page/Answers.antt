-- `word::modulo_page` meets its contract. Assumes nothing.
use Rattle.std.proofs.Common.{◌≡◌, List, [], ◌∷◌, ℤ, pos, refl, ap, to_z-of_z, w64, of_z}
use mir.Facts.{sfits_lit}
use Rattle.word.specs.Word.{is_zero, page_remainder}
use Rattle.word.proofs.Signed.{back, same_bits, is_not_zero}
use Rattle.word.proofs.FloorLaws.{left}
use Rattle.word.proofs.modulo_page.Goals as goal

by_zero : (b a : ℤ) → a ≡ pos 0 → [] ≡ page_remainder b a
unfolding page_remainder is_zero
by_zero b a e = rw e refl

kept : (b a : ℤ) {r : ℤ} → (a ≡ pos 0 → ⊥) → r ≡ left b a → ◌≡◌ {A = List ℤ} (r ∷ []) (page_remainder b a)
unfolding page_remainder
kept b a h e = rw (is_not_zero a h) (ap (λ (z : ℤ). z ∷ []) e)

pub returns-then-a-eq0 : goal.returns-then-a-eq0
returns-then-a-eq0 c = by_zero c.args.b c.args.a (same_bits c.ranges.a (sfits_lit tt) c.if-a-eq0.true)

pub returns : goal.returns
returns c =
    let nonzero : c.args.a ≡ pos 0 → ⊥ = λ e. c.if-a-eq0.false (ap (of_z w64) e) in
    rw (back c.floor_rem.result c.floor_rem.type_inv)
    (kept c.args.b c.args.a nonzero (rw (to_z-of_z c.ranges.b, to_z-of_z c.ranges.a) at c.floor_rem.ensures))
