-- A slide of edition 2 under way: what the loop of `walk` keeps. The kept station is moved up at the powers of two and was not
-- met since; a station that is met again never lands, and where the slide runs into a loop the kept one is met within three
-- times the way to the loop and the loop (Brent). Assumes nothing.
use mathlib.Core.Path.{◌≡◌, refl, sym, ap, subst, ◌∙◌}
use mathlib.Core.List.{[], ◌∷◌}
use Prim.Native.Nat.{ℕ, ◌+◌, ◌*◌, ◌<◌, ◌≤◌}
use native.Mathlib.Omega.{arith}
use lib.ListN.{length}
use Rattle.std.specs.Prelude.{Option, Some, None}
use Rattle.exit.specs.declared.slide.Landed.{Landed}
use Rattle.base.proofs.Tests.{by_size}
use Rattle.flow.specs.Pointer.{Valid, turned_once}
use Rattle.flow.proofs.Order.{valid_turned}
use Rattle.flow.specs.declared.PointerState.{PointerState}
use Rattle.picture.specs.Picture.{Picture, Inside, codels}
use Rattle.exit.specs.declared.slide.Sight.TheVariants.{Shut, White, Coloured}
use Rattle.exit.specs.declared.page_slide.Watch.{Watch}
use Rattle.exit.specs.Trail.{Station, station, Trail, never_lost, comes_back}
use Rattle.exit.specs.Slide.{landed, look_of, Slide, turn, move, land, Ends, looks_of}
use Rattle.exit.specs.Watched.{begun_at, Met, Noted, here, still, Walks}
use Rattle.exit.proofs.SlideLaws.{white_inside}
use Rattle.exit.proofs.Lands.{Lands, lands_only, after_turn, after_move, lands_again, lands_back}
use Rattle.exit.proofs.Stations.{page_slide_total, page_slide_short, lands_soon, no_landing_lost}
use Rattle.exit.proofs.Rounds.{onward, after, onward_turn, onward_move, after_more, Loop, rounds, lost_soonest, lost_rounds, lands_after}

abbrev pub kept_of : Watch → Station
kept_of w = record { row = w.row; col = w.col; dp = w.dp }

-- a look is counted
pub noted_looks : {w w' : Watch} {r c d : ℕ} → Noted w r c d w' → w'.looks ≡ w.looks + 1
noted_looks (here e) = refl
noted_looks (still f) = refl

-- the watch of a slide that began at a and stands at b: station `at` is kept and was not met since
pub record Hunting (p : Picture) (a : Station) (w : Watch) (b : Station) : Type 0 where
  pub at : ℕ
  pub present : after p w.looks a ≡ b
  pub kept : after p at a ≡ kept_of w
  pub before : at ≤ w.looks
  pub earlier : 0 < w.looks → at < w.looks
  pub due : w.looks ≤ w.next
  pub some : 0 < w.next
  pub least : 2 * at ≤ w.next
  pub power : 1 < w.next → w.next ≤ 2 * at
  pub unmet : (j : ℕ) → at < j → j < w.looks → after p j a ≡ after p at a → ⊥
  pub few : (m l : ℕ) → Loop p a m l → at ≤ 2 * (m + l)

hunt_begins : {p : Picture} (r c : ℕ) (s : PointerState)
    → Hunting p (station r c s) (begun_at r c s.dp) (station r c s)
unfolding after
hunt_begins r c s =
    record {
      at = 0;
      present = refl;
      kept = refl;
      before = omega arith;
      earlier = λ h. h;
      due = omega arith;
      some = omega arith;
      least = omega arith;
      power = λ h. omega arith;
      unmet = λ j h k e. omega arith;
      few = λ m l o. omega arith;
    }

module _ {p : Picture} {a : Station} {w : Watch} {b : Station} (H : Hunting p a w b) where
  -- three times the way to the loop and the loop
  looks_few : (m l : ℕ) → Loop p a m l → w.looks ≤ 3 * (m + l)
  looks_few m l o = by_size H.at m outside (λ h. by_size (H.at + l) w.looks (λ k. absurd (met h k)) (λ k. omega (arith, H.few m l o)))
    where
      outside : H.at < m → w.looks ≤ 3 * (m + l)
      outside h = by_size 1 w.next (λ k. omega (arith, H.due, H.power k)) (λ k. omega (arith, H.due, o.some))

      met : m ≤ H.at → H.at + l < w.looks → ⊥
      met h k = H.unmet (H.at + l) (omega (arith, o.some)) k (sym (rounds o H.at h))

  -- the count at which the next station is kept is not far
  next_near : w.next ≤ 2 * w.looks + 1
  next_near = by_size 1 w.next (λ k. omega (arith, H.power k, H.before)) (λ k. omega arith)

  module _ (off : 0 < w.looks → kept_of w ≡ b → ⊥) where
    -- the present station too is not the kept one
    not_met : (j : ℕ) → H.at < j → j ≤ w.looks → after p j a ≡ after p H.at a → ⊥
    not_met j h k e = by_size j w.looks (λ x. H.unmet j h x e) last
      where
        last : w.looks ≤ j → ⊥
        last x =
            let q : j ≡ w.looks = omega arith in
            off (omega arith) (sym H.kept ∙ sym e ∙ ap (λ (n : ℕ). after p n a) q ∙ H.present)

    -- so where the kept station is moved up, it was not yet past the way to the loop, or not by the loop
    moved_few : w.looks ≡ w.next → (m l : ℕ) → Loop p a m l → w.looks ≤ 2 * (m + l)
    moved_few q m l o = by_size 1 w.next big (λ k. omega (arith, o.some))
      where
        met : m ≤ H.at → l ≤ H.at → ⊥
        met h k = not_met (H.at + l) (omega (arith, o.some)) (omega (arith, H.least, q)) (sym (rounds o H.at h))

        big : 1 < w.next → w.looks ≤ 2 * (m + l)
        big x =
            by_size H.at m (λ h. omega (arith, H.power x))
            (λ h. by_size H.at l (λ k. omega (arith, H.power x)) (λ k. absurd (met h k)))

    hunts : {w' : Watch} {b' : Station} → Noted w b.row b.col b.dp w' → onward p b ≡ b' → Hunting p a w' b'
    hunts (here e) q =
        record {
          at = w.looks;
          present = after_more p w.looks a ∙ ap (onward p) H.present ∙ q;
          kept = H.present;
          before = omega arith;
          earlier = λ h. omega arith;
          due = omega (arith, H.some);
          some = omega (arith, H.some);
          least = omega arith;
          power = λ h. omega arith;
          unmet = λ j h k f. omega arith;
          few = moved_few e;
        }
    hunts (still f) q =
        record {
          at = H.at;
          present = after_more p w.looks a ∙ ap (onward p) H.present ∙ q;
          kept = H.kept;
          before = omega (arith, H.before);
          earlier = λ h. omega (arith, H.before);
          due = omega (arith, H.due, f);
          some = H.some;
          least = H.least;
          power = H.power;
          unmet = λ j h k e. not_met j h (omega arith) e;
          few = H.few;
        }

-- a slide that began at (r₀, c₀) in state s₀ stands at (r, c) in state s
pub record Watching (p : Picture) (r₀ c₀ : ℕ) (s₀ : PointerState) (r c : ℕ) (s : PointerState) (w : Watch) : Type 0 where
  pub begin : Inside p r₀ c₀
  pub began : Valid s₀
  pub place : Inside p r c
  pub valid : Valid s
  -- the stations before this one: as it goes on from here, so it ends from there
  pub past : Trail
  pub passed : length past ≡ w.looks
  pub rest : (t : Trail) (o : Option Landed) → Slide p never_lost past r c s t o → Slide p never_lost [] r₀ c₀ s₀ t o
  -- where it lands at all, that is still ahead
  pub ahead : (k : ℕ) → Lands p (station r₀ c₀ s₀) k → w.looks ≤ k
  pub hunt : Hunting p (station r₀ c₀ s₀) w (station r c s)

pub watch_begins : {p : Picture} {r c : ℕ} {s : PointerState} → Inside p r c → Valid s
    → {w : Watch} → w ≡ begun_at r c s.dp → Watching p r c s r c s w
watch_begins {p} {r} {c} {s} i v q =
    subst (Watching p r c s r c s) (sym q) (record {
      begin = i;
      began = v;
      place = i;
      valid = v;
      past = [];
      passed = refl;
      rest = λ t o d. d;
      ahead = λ k l. omega arith;
      hunt = hunt_begins r c s;
    })

module _ {p : Picture} {r₀ c₀ : ℕ} {s₀ : PointerState} {r c : ℕ} {s : PointerState} {w : Watch} (S : Watching p r₀ c₀ s₀ r c s w) where
  -- what lands lands from here in so much less
  here_lands : (k : ℕ) → Lands p (station r₀ c₀ s₀) k → (j : ℕ) × (k ≡ j + w.looks) × Lands p (station r c s) j
  here_lands k l =
      let (j, q, m) = lands_after w.looks (station r₀ c₀ s₀) l (S.ahead k l) in
      (j, q, subst (λ (b : Station). Lands p b j) S.hunt.present m)

  met_same : Met w r c s.dp → kept_of w ≡ station r c s
  met_same m = λ i. record { row = m.same_row i; col = m.same_col i; dp = m.same_dp i }

  -- the kept station is met again: it would land both later and now
  none_lands : Met w r c s.dp → (k : ℕ) → Lands p (station r₀ c₀ s₀) k → ⊥
  none_lands m k l =
      let (j, q, x) = here_lands k l in
      let (i, z, y) = lands_after S.hunt.at (station r₀ c₀ s₀) l (omega (arith, S.ahead k l, S.hunt.before)) in
      let one = lands_only (subst (λ (b : Station). Lands p b i) (S.hunt.kept ∙ met_same m) y) x in
      omega (arith, S.hunt.earlier m.some)

  pub met_again : Met w r c s.dp → Walks p r₀ c₀ s₀ (record { end = None; looks = w.looks })
  met_again m =
      let x = no_landing_lost S.begin S.began (none_lands m) in
      let (n, l, o, q) = lost_rounds x.slides in
      record {
        ends = x;
        own = lost_soonest x.slides (S.hunt.earlier m.some) (S.hunt.kept ∙ met_same m ∙ sym S.hunt.present);
        cheap = omega (arith, looks_few S.hunt n l o, q);
      }

  pub walks_lands : {a b : ℕ} {w' : Watch} → Noted w r c s.dp w' → look_of p r c s.dp ≡ Coloured a b
      → Walks p r₀ c₀ s₀ (record { end = Some (landed a b s); looks = w'.looks })
  unfolding looks_of
  walks_lands n e =
      record {
        ends = record { trail = station r c s ∷ S.past; slides = lands_back (S.rest _ _ (land refl e)) };
        own = omega (arith, noted_looks n, S.passed);
        cheap = omega (arith, noted_looks n, S.passed);
      }

  -- three looks for each station of the grid are enough
  pub looks_most : w.looks ≤ 3 * (4 * codels p)
  looks_most = by_end (page_slide_total p r₀ c₀ s₀ S.begin S.began)
    where
      by_end : (o : Option Landed) × Ends p comes_back r₀ c₀ s₀ o → w.looks ≤ 3 * (4 * codels p)
      by_end (Some o, x) =
          let (k, l, f) = lands_again x.slides in
          omega (arith, S.ahead k l, lands_soon S.begin S.began l)
      by_end (None, x) =
          let (m, l, o, q) = lost_rounds x.slides in
          omega (arith, looks_few S.hunt m l o, q, page_slide_short x.slides S.begin S.began)

  pub next_most : w.next ≤ 2 * (3 * (4 * codels p)) + 1
  next_most = omega (arith, next_near S.hunt, looks_most)

  -- one look on
  module _ (off : Met w r c s.dp → ⊥) {w' : Watch} (n : Noted w r c s.dp w') where
    off_kept : 0 < w.looks → kept_of w ≡ station r c s → ⊥
    off_kept h e =
        off (record {
          some = h;
          same_row = ap (λ (a : Station). a.row) e;
          same_col = ap (λ (a : Station). a.col) e;
          same_dp = ap (λ (a : Station). a.dp) e;
        })

    goes : {a b : ℕ} {u : PointerState} → Inside p a b → Valid u → onward p (station r c s) ≡ station a b u
        → ((k : ℕ) → Lands p (station r c s) k → 0 < k)
        → ((t : Trail) (o : Option Landed) → Slide p never_lost (station r c s ∷ S.past) a b u t o → Slide p never_lost S.past r c s t o)
        → Watching p r₀ c₀ s₀ a b u w'
    goes i v on later back =
        record {
          begin = S.begin;
          began = S.began;
          place = i;
          valid = v;
          past = station r c s ∷ S.past;
          passed = omega (arith, S.passed, noted_looks n);
          rest = λ t o d. S.rest t o (back t o d);
          ahead = λ k l. let (j, q, m) = here_lands k l in omega (arith, later j m, noted_looks n);
          hunt = hunts S.hunt off_kept n on;
        }

    pub watch_turns : {u : PointerState} → look_of p r c s.dp ≡ Shut → u ≡ turned_once s → Watching p r₀ c₀ s₀ r c u w'
    watch_turns e q =
        subst (λ (u : PointerState). Watching p r₀ c₀ s₀ r c u w') (sym q)
        (goes S.place (valid_turned s S.valid) (onward_turn p r c s e) (λ k l. let (j, z, m) = after_turn e l in omega arith) (λ t o d. turn refl e d))

    pub watch_moves : {a b : ℕ} → look_of p r c s.dp ≡ White a b → Watching p r₀ c₀ s₀ a b s w'
    watch_moves e =
        goes (white_inside p r c s.dp S.place e) S.valid (onward_move p r c s e) (λ k l. let (j, z, m) = after_move e l in omega arith) (λ t o d. move refl e d)
