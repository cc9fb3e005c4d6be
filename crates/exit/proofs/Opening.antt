-- What an attempt of a region comes to is settled, and where it is open it leads to a coloured codel.
--     same_codel, same_way    one codel to leave by, and one way
--     opens_only              one region, one state and one instruction
--     open_unstuck            an open attempt is no lost slide
--     rust_unstuck            in edition 1 nothing is stuck
--     closed_shut             what is shut ahead is passed over in both editions
--     astray_shut             a lost slide is passed over in edition 1
--     reached                 the codel that an open attempt leads to
-- Assumes nothing.
use mathlib.Core.Path.{◌≡◌, refl, sym, ap, ap₂, subst}
use mathlib.Core.List.{List}
use Prim.Native.Nat.{ℕ, ◌/◌, ◌%◌, ◌<◌, ◌≤◌}
use native.Mathlib.Omega.{arith}
use lib.Dec.{lit≤}
use lib.ListN.{length}
use Rattle.base.specs.declared.edition.Edition.{Edition}
use Rattle.base.specs.declared.edition.Edition.TheVariants.{Rust}
use Rattle.base.proofs.Clash.{clash}
use Rattle.flow.specs.Pointer.{Valid}
use Rattle.flow.specs.declared.PointerState.{PointerState}
use Rattle.colour.specs.Decode.{decode_of}
use Rattle.colour.proofs.DecodeLaws.{decode_small}
use Rattle.picture.specs.Picture.{Picture, Inside, cols_of, codels, colour_at, codel_colour, Sound}
use Rattle.picture.proofs.Codels.{inside_of}
use Rattle.exit.specs.declared.attempt.Way.{Way}
use Rattle.exit.specs.declared.attempt.Way.TheVariants.{Closed, Step, Astray, Glide}
use Rattle.exit.specs.Attempt.{Attempt, step, glide}
use Rattle.exit.specs.Opens.{region_at, Tried, Opens, beside, across, Stuck, lost, Shut}
use Rattle.exit.proofs.Only.{leaving_only, attempt_only}
use Rattle.exit.proofs.SlideLaws.{white_inside, coloured_inside, coloured_colour}
use Rattle.exit.proofs.SlideEnds.{Landing, landing}

pub rust_unstuck : {p : Picture} {map : List ℕ} {r : ℕ} {q : PointerState} {e : Edition} → e ≡ Rust → Stuck p map r q e → ⊥
rust_unstuck x (lost t) = clash (cc)

module _ {p : Picture} {map : List ℕ} {r : ℕ} {q : PointerState} (h : 0 < cols_of p) (l : length map ≡ codels p) (v : Valid q) where
  pub same_codel : {e e' : Edition} {w w' : Way} (a : Tried e p map r q w) (b : Tried e' p map r q w') → a.codel ≡ b.codel
  same_codel a b = leaving_only h l v a.leaves b.leaves

  pub same_way : {e : Edition} {w w' : Way} → Tried e p map r q w → Tried e p map r q w' → w ≡ w'
  same_way {e} {w' = w'} a b = attempt_only a.way (subst (λ (i : ℕ). Attempt e p (i / cols_of p) (i % cols_of p) q w') (sym (same_codel a b)) b.way)

  pub opens_only : {e : Edition} {t i t' i' : ℕ} {u u' : PointerState} → Opens e p map r q t u i → Opens e p map r q t' u' i' → (t ≡ t') × (u ≡ u') × (i ≡ i')
  opens_only (beside {a = a} {b = b} x) (beside {a = a'} {b = b'} y) =
      let w : Step a b ≡ Step a' b' = same_way x y in
      let ea : a ≡ a' = cc in
      let eb : b ≡ b' = cc in
      (ap₂ (region_at p map) ea eb, refl, ap₂ decode_of (ap (codel_colour p) (same_codel x y)) (ap₂ (colour_at p) ea eb))
  opens_only (beside x) (across y) = let w = same_way x y in clash (cc)
  opens_only (across x) (beside y) = let w = same_way x y in clash (cc)
  opens_only {u = u} {u' = u'} (across {a = a} {b = b} {c = c} {d = d} x) (across {a = a'} {b = b'} {c = c'} {d = d'} y) =
      let w : Glide a b c d u ≡ Glide a' b' c' d' u' = same_way x y in
      let ec : c ≡ c' = cc in
      let ed : d ≡ d' = cc in
      (ap₂ (region_at p map) ec ed, cc, refl)

  pub open_unstuck : {target : ℕ} {u : PointerState} {e : Edition} {i : ℕ} → Opens e p map r q target u i → Stuck p map r q e → ⊥
  open_unstuck (beside x) (lost y) = let w = same_way x y in clash (cc)
  open_unstuck (across x) (lost y) = let w = same_way x y in clash (cc)

  pub closed_shut : {e : Edition} → Tried e p map r q Closed → Shut e p map r q
  closed_shut {e} t = record { never = λ target u i o. unopened o; unstuck = λ s. unlost t s }
    where
      unopened : {target i : ℕ} {u : PointerState} → Opens e p map r q target u i → ⊥
      unopened (beside x) = let w = same_way t x in clash (cc)
      unopened (across x) = let w = same_way t x in clash (cc)

      unlost : {e : Edition} → Tried e p map r q Closed → Stuck p map r q e → ⊥
      unlost t (lost x) = let w = same_way t x in clash (cc)

  pub astray_shut : {a b : ℕ} → Tried Rust p map r q (Astray a b) → Shut Rust p map r q
  astray_shut t = record { never = λ target u i o. unopened o; unstuck = rust_unstuck refl }
    where
      unopened : {target i : ℕ} {u : PointerState} → Opens Rust p map r q target u i → ⊥
      unopened (beside x) = let w = same_way t x in clash (cc)
      unopened (across x) = let w = same_way t x in clash (cc)

-- where a step and a slide come to
stepped : {e : Edition} {p : Picture} {r c a b : ℕ} {q : PointerState} → Inside p r c → Valid q → Attempt e p r c q (Step a b) → Landing p a b q
stepped {p = p} {r = r} {c = c} {q = q} i v (step e) =
    let k = coloured_colour p r c q.dp e in
    record { place = coloured_inside p r c q.dp i e; valid = v; not_black = k.0; not_white = k.1 }

slid : {e : Edition} {p : Picture} {r c x y a b : ℕ} {q u : PointerState} → Inside p r c → Valid q → Attempt e p r c q (Glide x y a b u) → Landing p a b u
slid {p = p} {r = r} {c = c} {q = q} i v (glide e d) = landing d (white_inside p r c q.dp i e) v

-- an open attempt leads to a coloured codel of the target
pub record Reached (p : Picture) (map : List ℕ) (target : ℕ) (u : PointerState) : Type 0 where
  pub row : ℕ
  pub col : ℕ
  pub own : region_at p map row col ≡ target
  pub lands : Landing p row col u

pub reached : {e : Edition} {p : Picture} {map : List ℕ} {r target : ℕ} {q u : PointerState} {i : ℕ} → Sound p → length map ≡ codels p → Valid q → Opens e p map r q target u i
    → Reached p map target u
reached S l v (beside {a = a} {b = b} t) =
    record { row = a; col = b; own = refl; lands = stepped (inside_of S t.codel (omega (arith, t.leaves.codel))) v t.way }
reached S l v (across {c = c} {d = d} t) =
    record { row = c; col = d; own = refl; lands = slid (inside_of S t.codel (omega (arith, t.leaves.codel))) v t.way }

-- its instruction is one of rule 1.5's
pub opens_known : {e : Edition} {p : Picture} {map : List ℕ} {r target : ℕ} {q u : PointerState} {i : ℕ} → Opens e p map r q target u i → i ≤ 17
opens_known {p = p} (beside {a = a} {b = b} t) = decode_small (codel_colour p t.codel) (colour_at p a b)
opens_known (across t) = lit≤ tt
