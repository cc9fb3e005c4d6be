-- The slides and the attempts of the two editions, one beside the other (rules 5.4, 16.8).
--     slide_total       every slide from a codel of the grid ends, in both editions
--     lost_exactly      in edition 2 a slide is lost exactly where no landing comes, however long it goes on
--     lands_both        where edition 1's slide lands, edition 2's lands at the same codel in the same state
--     lost_then_long    a slide that is lost in edition 1 and lands in edition 2 has turned eight times or more
--     attempt_total     every attempt from a codel of the grid comes to something, in both editions
--     ways_beside       in edition 2 to the same as in edition 1, but for such slides
--     opens_both        what is open in edition 1 is open in edition 2, and leads to the same
-- Assumes nothing.
use mathlib.Core.Path.{◌≡◌, refl, subst}
use mathlib.Core.Bool.{Bool, true, false}
use mathlib.Core.List.{List, ◌∷◌}
use mathlib.Core.Logic.{◌↔◌}
use Prim.Native.Nat.{ℕ, ◌<◌, ◌≤◌}
use native.Mathlib.Omega.{arith}
use borrow.Author.Tests.{leb-true, leb-false, lt-leb}
use lib.Dec.{leb}
use Rattle.std.specs.Prelude.{Option, Some, None}
use Rattle.exit.specs.declared.slide.Landed.{Landed}
use Rattle.base.specs.declared.edition.Edition.{Edition}
use Rattle.base.specs.declared.edition.Edition.TheVariants.{Rust, Page}
use Rattle.base.proofs.Clash.{clash}
use Rattle.flow.specs.Pointer.{Valid}
use Rattle.flow.specs.declared.PointerState.{PointerState}
use Rattle.picture.specs.Picture.{Picture, Inside}
use Rattle.exit.specs.declared.slide.Sight.{Sight}
use Rattle.exit.specs.declared.slide.Sight.TheVariants.{Shut, White, Coloured}
use Rattle.exit.specs.declared.attempt.Way.{Way}
use Rattle.exit.specs.declared.attempt.Way.TheVariants.{Closed, Step, Astray, Glide}
use Rattle.exit.specs.Trail.{station, Trail, Rule, most_turns, turns_of, eighth_turn, comes_back, lost_by, never_lost}
use Rattle.exit.specs.Slide as slides
use Rattle.exit.specs.Slide.{landed, look_of, Slide, turn, move, land, Ends}
use Rattle.exit.specs.Attempt.{Attempt, shut, step, glide, lost}
use Rattle.exit.specs.Opens as opens
use Rattle.exit.specs.Opens.{Opens}
use Rattle.exit.proofs.Only.{slide_only, attempt_only}
use Rattle.exit.proofs.SlideLaws.{white_inside}
use Rattle.exit.proofs.TrailLaws.{turns_turn, turns_move}
use Rattle.exit.proofs.Lands.{lands_back}
use Rattle.exit.proofs.Stations.{page_slide_total}
use Rattle.exit.proofs.SlideEnds.{rust_slide_total}

pub slide_total : (e : Edition) (p : Picture) (r c : ℕ) (s : PointerState) → Inside p r c → Valid s → (o : Option Landed) × Ends p (lost_by e) r c s o
slide_total Rust p r c s i v = rust_slide_total p r c s i v
slide_total Page p r c s i v = page_slide_total p r c s i v

-- a landing by any rule is one of a slide that is never lost
lands_on : {p : Picture} {rule : Rule} {past t : Trail} {r c a b : ℕ} {s u : PointerState}
    → Slide p rule past r c s t (Some (landed a b u)) → Slide p never_lost past r c s t (Some (landed a b u))
lands_on (turn h e d) = turn refl e (lands_on d)
lands_on (move h e d) = move refl e (lands_on d)
lands_on (land h e) = land refl e

pub lost_exactly : {p : Picture} {r c : ℕ} {s : PointerState} → Inside p r c → Valid s
    → Ends p comes_back r c s None ↔ ((a b : ℕ) (u : PointerState) → Ends p never_lost r c s (Some (landed a b u)) → ⊥)
lost_exactly {p} {r} {c} {s} i v = (
  λ x a b u y. let q = (slide_only x.slides (lands_back y.slides)).1 in clash (cc),
  λ none. by_end none (page_slide_total p r c s i v),
)
  where
    by_end : ((a b : ℕ) (u : PointerState) → Ends p never_lost r c s (Some (landed a b u)) → ⊥) → (o : Option Landed) × Ends p comes_back r c s o → Ends p comes_back r c s None
    by_end none (Some o, x) = absurd (none o.row o.col o.state (record { trail = x.trail; slides = lands_on x.slides }))
    by_end none (None, x) = x

pub lands_both : {p : Picture} {r c a b : ℕ} {s u : PointerState} → Ends p eighth_turn r c s (Some (landed a b u)) → Ends p comes_back r c s (Some (landed a b u))
lands_both x = record { trail = x.trail; slides = lands_back x.slides }

-- turns are never taken back
turns_grow : {p : Picture} {rule : Rule} {past t : Trail} {r c : ℕ} {s : PointerState} {o : Option Landed}
    → Slide p rule past r c s t o → turns_of (station r c s ∷ past) ≤ turns_of t
turns_grow (slides.lost h) = omega arith
turns_grow {past = past} {r = r} {c = c} {s = s} (turn h e d) = omega (arith, turns_grow d, turns_turn r c s past)
turns_grow {past = past} {r = r} {c = c} {s = s} (move {r' = a} {c' = b} h e d) = omega (arith, turns_grow d, turns_move r c s past a b)
turns_grow (land h e) = omega arith

-- so a landing by any rule with fewer than eight turns is one of edition 1
lands_early : {p : Picture} {rule : Rule} {past t : Trail} {r c a b : ℕ} {s u : PointerState}
    → Slide p rule past r c s t (Some (landed a b u)) → turns_of t < most_turns → Slide p eighth_turn past r c s t (Some (landed a b u))
unfolding eighth_turn
lands_early {past = past} {r = r} {c = c} {s = s} (turn h e d) q =
    turn (lt-leb most_turns (turns_of (station r c s ∷ past)) (omega (arith, turns_grow d, turns_turn r c s past, q))) e (lands_early d q)
lands_early {past = past} {r = r} {c = c} {s = s} (move {r' = a} {c' = b} h e d) q =
    move (lt-leb most_turns (turns_of (station r c s ∷ past)) (omega (arith, turns_grow d, turns_move r c s past a b, q))) e (lands_early d q)
lands_early {past = past} {r = r} {c = c} {s = s} (land h e) q = land (lt-leb most_turns (turns_of (station r c s ∷ past)) q) e

pub lost_then_long : {p : Picture} {r c a b : ℕ} {s u : PointerState} → Ends p eighth_turn r c s None → (y : Ends p comes_back r c s (Some (landed a b u)))
    → most_turns ≤ turns_of y.trail
lost_then_long x y = by_test (leb most_turns (turns_of y.trail)) refl
  where
    by_test : (z : Bool) → leb most_turns (turns_of y.trail) ≡ z → most_turns ≤ turns_of y.trail
    by_test true e = leb-true most_turns (turns_of y.trail) e
    by_test false e = let q = (slide_only x.slides (lands_early y.slides (leb-false most_turns (turns_of y.trail) e))).1 in clash (cc)

-- what the attempt from one codel in one state comes to in edition 1, and in edition 2
pub data Ways (p : Picture) (s : PointerState) : Way → Way → Type 0 where
  same : {w : Way} → Ways p s w w
  -- the slide from the white codel (r, c) is lost at its eighth turn, and lands after it
  long : {r c a b : ℕ} {u : PointerState} → Ends p eighth_turn r c s None → (d : Ends p comes_back r c s (Some (landed a b u))) → most_turns ≤ turns_of d.trail
      → Ways p s (Astray r c) (Glide r c a b u)

module _ {p : Picture} {r c : ℕ} {s : PointerState} (i : Inside p r c) (v : Valid s) where
  -- an attempt comes to something, in both editions
  pub attempt_total : (e : Edition) → (w : Way) × Attempt e p r c s w
  attempt_total e = see (look_of p r c s.dp) refl
    where
      slid : (a b : ℕ) → look_of p r c s.dp ≡ White a b → (o : Option Landed) × Ends p (lost_by e) a b s o → (w : Way) × Attempt e p r c s w
      slid a b q (Some o, d) = (Glide a b o.row o.col o.state, glide q d)
      slid a b q (None, d) = (Astray a b, lost q d)

      see : (x : Sight) → look_of p r c s.dp ≡ x → (w : Way) × Attempt e p r c s w
      see Shut q = (Closed, shut q)
      see (White a b) q = slid a b q (slide_total e p a b s (white_inside p r c s.dp i q) v)
      see (Coloured a b) q = (Step a b, step q)

  -- from edition 1's
  beside : {w : Way} → Attempt Rust p r c s w → (w' : Way) × Attempt Page p r c s w' × Ways p s w w'
  beside (shut q) = (Closed, shut q, same)
  beside (step {r' = a} {c' = b} q) = (Step a b, step q, same)
  beside (glide {r' = x} {c' = y} {a = a} {b = b} {t = t} q d) = (Glide x y a b t, glide q (lands_both d), same)
  beside (lost {r' = x} {c' = y} q d) = by_end (page_slide_total p x y s (white_inside p r c s.dp i q) v)
    where
      by_end : (o : Option Landed) × Ends p comes_back x y s o → (w' : Way) × Attempt Page p r c s w' × Ways p s (Astray x y) w'
      by_end (Some o, z) = (Glide x y o.row o.col o.state, glide q z, long d z (lost_then_long d z))
      by_end (None, z) = (Astray x y, lost q z, same)

  pub ways_beside : {w w' : Way} → Attempt Rust p r c s w → Attempt Page p r c s w' → Ways p s w w'
  ways_beside {w} x y =
      let (w'', z, q) = beside x in
      subst (Ways p s w) (attempt_only z y) q

-- where an attempt of edition 1 lands, that of edition 2 does
pub glide_both : {p : Picture} {r c x y a b : ℕ} {s t : PointerState} → Attempt Rust p r c s (Glide x y a b t) → Attempt Page p r c s (Glide x y a b t)
glide_both (glide q d) = glide q (lands_both d)

step_both : {p : Picture} {r c a b : ℕ} {s : PointerState} → Attempt Rust p r c s (Step a b) → Attempt Page p r c s (Step a b)
step_both (step q) = step q

-- what is open in edition 1 is open in edition 2, and leads to the same
pub opens_both : {p : Picture} {map : List ℕ} {r target : ℕ} {q u : PointerState} {i : ℕ} → Opens Rust p map r q target u i → Opens Page p map r q target u i
opens_both (opens.beside t) = opens.beside (record { codel = t.codel; leaves = t.leaves; way = step_both t.way })
opens_both (opens.across t) = opens.across (record { codel = t.codel; leaves = t.leaves; way = glide_both t.way })
