-- What the contracts cite is determined: a slide and an attempt have one outcome, a region has one codel to leave by in
-- each state, and there is one table of these over given cells. Assumes nothing.
use mathlib.Core.Path.{◌≡◌, ap, refl, sym, subst, ◌∙◌}
use mathlib.Core.Bool.{Bool, true, false}
use mathlib.Core.Logic.{◌⊎◌, inl, inr}
use mathlib.Core.List.{List}
use Prim.Native.Nat.{ℕ, zero, suc, ◌*◌, ◌<◌}
use native.Mathlib.Omega.{arith}
use borrow.Author.Tests.{eqb-true, eqb-false}
use lib.Dec.{eqb}
use lib.ListN.{length, get_or}
use Rattle.std.specs.Prelude.{Option, Some}
use Rattle.exit.specs.declared.slide.Landed.{Landed}
use Rattle.base.specs.declared.edition.Edition.{Edition}
use Rattle.flow.specs.Pointer.{Valid}
use Rattle.flow.proofs.Order.{valid_number}
use Rattle.flow.specs.declared.PointerState.{PointerState}
use Rattle.picture.specs.Picture.{Picture}
use Rattle.table.specs.Layout.{exit_at}
use Rattle.table.proofs.Cells.{same_exits}
use Rattle.exit.specs.declared.slide.Sight.{Sight}
use Rattle.exit.specs.declared.slide.Sight.TheVariants.{White}
use Rattle.exit.specs.declared.attempt.Way.{Way}
use Rattle.exit.specs.Trail.{Trail, Rule}
use Rattle.exit.specs.Slide.{landed, Slide, lost, turn, move, land, Ends}
use Rattle.exit.specs.Attempt as attempts
use Rattle.exit.specs.Attempt.{Attempt, shut, step, glide}
use Rattle.exit.specs.Leaving.{LeavesBy}
use Rattle.exit.specs.LeaveTable.{AllKept}
use Rattle.exit.proofs.LeavingLaws.{neither}
use Rattle.base.proofs.Clash.{clash}

-- two white codels that one look sees are one
same_codel : {p : Picture} {rule : Rule} {past t : Trail} {x : Sight} {a b a' b' : ℕ} {s : PointerState} {o : Option Landed}
    → x ≡ White a b → x ≡ White a' b' → Slide p rule past a' b' s t o → Slide p rule past a b s t o
same_codel {p} {rule} {past} {t} {a = a} {b' = b'} {s = s} {o = o} e f d =
    subst (λ (y : ℕ). Slide p rule past a y s t o) (cc) (subst (λ (x : ℕ). Slide p rule past x b' s t o) (cc) d)

-- a slide has one trail and one end, whatever its rule
pub slide_only : {p : Picture} {rule : Rule} {past t t' : Trail} {r c : ℕ} {s : PointerState} {o o' : Option Landed}
    → Slide p rule past r c s t o → Slide p rule past r c s t' o' → (t ≡ t') × (o ≡ o')
slide_only (lost h) (lost k) = (refl, refl)
slide_only (lost h) (turn k f d') = clash (cc)
slide_only (lost h) (move k f d') = clash (cc)
slide_only (lost h) (land k f) = clash (cc)
slide_only (turn h e d) (lost k) = clash (cc)
slide_only (turn h e d) (turn k f d') = slide_only d d'
slide_only (turn h e d) (move k f d') = clash (cc)
slide_only (turn h e d) (land k f) = clash (cc)
slide_only (move h e d) (lost k) = clash (cc)
slide_only (move h e d) (turn k f d') = clash (cc)
slide_only (move h e d) (move k f d') = slide_only d (same_codel e f d')
slide_only (move h e d) (land k f) = clash (cc)
slide_only (land h e) (lost k) = clash (cc)
slide_only (land h e) (turn k f d') = clash (cc)
slide_only (land h e) (move k f d') = clash (cc)
slide_only (land h e) (land k f) = (refl, cc)

pub ends_only : {p : Picture} {rule : Rule} {r c : ℕ} {s : PointerState} {o o' : Option Landed} → Ends p rule r c s o → Ends p rule r c s o' → o ≡ o'
ends_only x y = (slide_only x.slides y.slides).1

same_end : {p : Picture} {rule : Rule} {x : Sight} {a b a' b' : ℕ} {s : PointerState} {o : Option Landed}
    → x ≡ White a b → x ≡ White a' b' → Ends p rule a' b' s o → Ends p rule a b s o
same_end e f d = record { trail = d.trail; slides = same_codel e f d.slides }

same_landing : {a b a' b' : ℕ} {t t' : PointerState} → Some (landed a b t) ≡ Some (landed a' b' t') → (a ≡ a') × (b ≡ b') × (t ≡ t')
same_landing {a} {b} {a'} {b'} {t} {t'} e =
    let q : landed a b t ≡ landed a' b' t' = cc in
    (ap (λ (o : Landed). o.row) q, ap (λ (o : Landed). o.col) q, ap (λ (o : Landed). o.state) q)

-- an attempt has one outcome
pub attempt_only : {e : Edition} {p : Picture} {r c : ℕ} {s : PointerState} {w w' : Way} → Attempt e p r c s w → Attempt e p r c s w' → w ≡ w'
attempt_only (shut e) (shut f) = refl
attempt_only (shut e) (step f) = clash (cc)
attempt_only (shut e) (glide f d') = clash (cc)
attempt_only (shut e) (attempts.lost f d') = clash (cc)
attempt_only (step e) (shut f) = clash (cc)
attempt_only (step e) (step f) = cc
attempt_only (step e) (glide f d') = clash (cc)
attempt_only (step e) (attempts.lost f d') = clash (cc)
attempt_only (glide e d) (shut f) = clash (cc)
attempt_only (glide e d) (step f) = clash (cc)
attempt_only (glide e d) (glide f d') = let (x, y, z) = same_landing (ends_only d (same_end e f d')) in cc
attempt_only (glide e d) (attempts.lost f d') = let q = ends_only d (same_end e f d') in clash (cc)
attempt_only (attempts.lost e d) (shut f) = clash (cc)
attempt_only (attempts.lost e d) (step f) = clash (cc)
attempt_only (attempts.lost e d) (glide f d') = let q = ends_only d (same_end e f d') in clash (cc)
attempt_only (attempts.lost e d) (attempts.lost f d') = cc

-- a region has one codel to leave by
pub leaving_only : {map : List ℕ} {rows cols : ℕ} {s : PointerState} {region i j : ℕ} → 0 < cols → length map ≡ rows * cols → Valid s
    → LeavesBy map rows cols s region i → LeavesBy map rows cols s region j → i ≡ j
leaving_only {map} {rows} {cols} {s} {region} {i} {j} h l v x y =
    neither rows cols s h v i j (subst (λ (n : ℕ). i < n) l x.codel) (subst (λ (n : ℕ). j < n) l y.codel)
    (y.unbeaten i x.codel x.own) (x.unbeaten j y.codel y.own)

-- some codel of the first n is of the region, or none is
abbrev Met : List ℕ → ℕ → ℕ → Type 0
Met map region n = (j : ℕ) × (j < n) × (get_or map j 0 ≡ region)

met_or : (map : List ℕ) (region n : ℕ) → Met map region n ⊎ (Met map region n → ⊥)
met_or map region zero = inr (λ t. none t)
  where
    none : Met map region 0 → ⊥
    none t = omega (arith, t.1)
met_or map region (suc n) = go (eqb (get_or map n 0) region) refl (met_or map region n)
  where
    go : (b : Bool) → eqb (get_or map n 0) region ≡ b → Met map region n ⊎ (Met map region n → ⊥) → Met map region (suc n) ⊎ (Met map region (suc n) → ⊥)
    go true e m = inl (n, omega arith, eqb-true _ _ e)
    go false e (inl t) = inl (t.0, omega (arith, t.1), t.2)
    go false e (inr never) = inr (λ t. never (t.0, earlier t (eqb t.0 n) refl, t.2))
      where
        earlier : (t : Met map region (suc n)) → (b : Bool) → eqb t.0 n ≡ b → t.0 < n
        earlier t true f = absurd (eqb-false _ _ e (subst (λ (k : ℕ). get_or map k 0 ≡ region) (eqb-true _ _ f) t.2))
        earlier t false f = let d = eqb-false t.0 n f in omega (arith, t.1)

-- two tables of the codels to leave by over the same cells are equal
pub only_table : (map before one two : List ℕ) (rows cols : ℕ) → 0 < cols → length map ≡ rows * cols
    → AllKept map before one rows cols 8 → AllKept map before two rows cols 8 → one ≡ two
only_table map before one two rows cols h g A B =
    same_exits one two (A.same_length ∙ sym B.same_length) (λ r s l. at r s l (met_or map r (length map)))
  where
    at : (r s : ℕ) → s < 8 → Met map r (length map) ⊎ (Met map r (length map) → ⊥) → exit_at one r s ≡ exit_at two r s
    at r s l (inl t) =
        subst (λ (q : ℕ). exit_at one q s ≡ exit_at two q s) t.2
        (leaving_only h g (valid_number s l) (A.leaves s l t.0 t.1) (B.leaves s l t.0 t.1))
    at r s l (inr never) = A.others r s l (λ _ j m e. never (j, m, e)) ∙ sym (B.others r s l (λ _ j m e. never (j, m, e)))
