-- The stations of a slide by their number, and the loop that a lost slide of edition 2 runs into.
--     lost_soonest    a slide is lost at the first station that comes again
--     lost_rounds     the stations from which a lost slide looks ahead are the way to the loop and the loop
--     rounds          from every station of the loop on it goes round
--     lands_after     what lands in k moves and turns lands from its n-th station in n less
-- Assumes nothing.
use mathlib.Core.Path.{◌≡◌, refl, sym, ap, ◌∙◌}
use mathlib.Core.Bool.{Bool, true, false, ◌||◌}
use mathlib.Core.List.{[], ◌∷◌}
use Prim.Native.Nat.{ℕ, zero, suc, ◌+◌, ◌-◌, ◌%◌, ◌<◌, ◌≤◌}
use native.Mathlib.Nat.{add-suc}
use native.Mathlib.Numerals.{add-one}
use native.Mathlib.Omega.{arith}
use borrow.Author.Tests.{eqb-true, eqb-false, eq-eqb}
use lib.Dec.{eqb}
use lib.ListN.{length}
use Rattle.std.specs.Prelude.{None}
use Rattle.base.proofs.Clash.{clash}
use Rattle.flow.specs.Pointer.{turned_once}
use Rattle.flow.specs.declared.PointerState.{PointerState}
use Rattle.picture.specs.Picture.{Picture}
use Rattle.exit.specs.declared.slide.Sight.{Sight}
use Rattle.exit.specs.declared.slide.Sight.TheVariants.{Shut, White, Coloured}
use Rattle.exit.specs.Trail.{Station, station, Trail, same_station, occurs, comes_back}
use Rattle.exit.specs.Slide.{look_of, Slide, lost, turn, move, looks_of}
use Rattle.exit.proofs.Lands.{Lands, ahead, turned, moved, same_stations}

-- the station after one look; the same where a coloured codel is ahead
by_sight : Sight → Station → Station
by_sight Shut a = record { row = a.row; col = a.col; dp = (a.dp + 1) % 4 }
by_sight (White r c) a = record { row = r; col = c; dp = a.dp }
by_sight (Coloured r c) a = a

pub onward : Picture → Station → Station
onward p a = by_sight (look_of p a.row a.col a.dp) a

-- and after n
unfoldable pub after : Picture → ℕ → Station → Station
after p zero a = a
after p (suc n) a = onward p (after p n a)

pub onward_turn : (p : Picture) (r c : ℕ) (s : PointerState) → look_of p r c s.dp ≡ Shut → onward p (station r c s) ≡ station r c (turned_once s)
unfolding onward by_sight
onward_turn p r c s e = rw e

pub onward_move : (p : Picture) (r c : ℕ) (s : PointerState) {a b : ℕ} → look_of p r c s.dp ≡ White a b → onward p (station r c s) ≡ station a b s
unfolding onward by_sight
onward_move p r c s e = rw e

-- one more, and k more
pub after_more : (p : Picture) (n : ℕ) (a : Station) → after p (n + 1) a ≡ onward p (after p n a)
unfolding after
after_more p n a = rw (add-one n)

after_add : (p : Picture) (m k : ℕ) (a : Station) → after p (m + k) a ≡ after p k (after p m a)
unfolding after
after_add p m zero a = ap (λ (n : ℕ). after p n a) (zero_more m)
  where
    zero_more : (n : ℕ) → n + 0 ≡ n
    zero_more n = omega arith
after_add p m (suc k) a = rw (add-suc m k) (ap (onward p) (after_add p m k a))

-- a slide from a runs into a loop of l stations after m
pub record Loop (p : Picture) (a : Station) (m l : ℕ) : Type 0 where
  pub some : 0 < l
  pub round : after p m a ≡ after p (m + l) a

-- and goes round from every later station
pub rounds : {p : Picture} {a : Station} {m l : ℕ} → Loop p a m l → (n : ℕ) → m ≤ n → after p n a ≡ after p (n + l) a
rounds {p} {a} {m} {l} o n h =
    let k = n - m in
    let e : n ≡ m + k = omega arith in
    let f : n + l ≡ m + l + k = omega arith in
    ap (λ (x : ℕ). after p x a) e ∙ after_add p m k a ∙ ap (after p k) o.round ∙ sym (after_add p (m + l) k a) ∙ ap (λ (x : ℕ). after p x a) (sym f)

-- one look on, a landing is one nearer
lands_next : {p : Picture} {k : ℕ} (a : Station) → Lands p a k → 0 < k → (j : ℕ) × (k ≡ j + 1) × Lands p (onward p a) j
unfolding onward by_sight
lands_next a (ahead e) h = absurd (omega arith)
lands_next a (turned {k = k} e l) h = (k, omega arith, rw e l)
lands_next a (moved {k = k} e l) h = (k, omega arith, rw e l)

pub lands_after : {p : Picture} {k : ℕ} (n : ℕ) (a : Station) → Lands p a k → n ≤ k → (j : ℕ) × (k ≡ j + n) × Lands p (after p n a) j
unfolding after
lands_after {k = k} zero a l h = (k, omega arith, l)
lands_after {p} (suc n) a l h =
    let (j, q, m) = lands_after n a l (omega arith) in
    let (i, z, y) = lands_next (after p n a) m (omega arith) in
    (i, omega arith, y)

-- a trail from a, station by station
pub data Along (p : Picture) (a : Station) : Trail → Type 0 where
  none : Along p a []
  more : {b : Station} {t : Trail} → after p (length t) a ≡ b → Along p a t → Along p a (b ∷ t)

same-station : (a b : Station) → same_station a b ≡ true → a ≡ b
same-station a b e = let (x, y, z) = same_stations a b e in λ i. record { row = x i; col = y i; dp = z i }

-- where a station stands on such a trail
occurs_at : {p : Picture} {a : Station} {t : Trail} (b : Station) → Along p a t → occurs b t ≡ true → (m : ℕ) × (m < length t) × (after p m a ≡ b)
unfolding occurs
occurs_at b none e = let z : ◌≡◌ {A = ℕ} 0 1 = cc in absurd (omega arith)
occurs_at {p} {a} b (more {b = d} {t = t} q l) e = by_test (same_station b d) refl (occurs_at b l)
  where
    by_test : (x : Bool) → same_station b d ≡ x → (occurs b t ≡ true → (m : ℕ) × (m < length t) × (after p m a ≡ b))
        → (m : ℕ) × (m < length (d ∷ t)) × (after p m a ≡ b)
    by_test true f deeper = (length t, omega arith, q ∙ sym (same-station b d f))
    by_test false f deeper =
        let there : occurs b t ≡ true = rw f at e in
        let (m, h, g) = deeper there in
        (m, omega arith, g)

-- the trail of a lost slide of edition 2 is the way to the loop and the loop
lost_loop : {p : Picture} {a : Station} {past t : Trail} {r c : ℕ} {s : PointerState} → Slide p comes_back past r c s t None
    → Along p a past → after p (length past) a ≡ station r c s → (m : ℕ) × (l : ℕ) × Loop p a m l × (length t ≡ m + l + 1)
unfolding comes_back after
lost_loop {p} {a} {past} {r = r} {c = c} {s = s} (lost h) g e =
    let (m, k, q) = occurs_at (station r c s) g h in
    let f : m + (length past - m) ≡ length past = omega arith in
    (m, length past - m, record { some = omega arith; round = q ∙ sym e ∙ ap (λ (n : ℕ). after p n a) (sym f) }, omega arith)
lost_loop {p} {r = r} {c = c} {s = s} (turn h l d) g e = lost_loop d (more e g) (ap (onward p) e ∙ onward_turn p r c s l)
lost_loop {p} {r = r} {c = c} {s = s} (move h l d) g e = lost_loop d (more e g) (ap (onward p) e ∙ onward_move p r c s l)

-- a station of such a trail occurs on it
at_occurs : {p : Picture} {a : Station} {t : Trail} (b : Station) (i : ℕ) → Along p a t → i < length t → after p i a ≡ b → occurs b t ≡ true
unfolding occurs
at_occurs b i none h e = absurd (omega arith)
at_occurs {p} {a} b i (more {b = d} {t = t} q l) h e = by_test (eqb i (length t)) refl (λ k. at_occurs b i l k e)
  where
    or_true : (x : Bool) → x || true ≡ true
    or_true true = refl
    or_true false = refl

    itself : same_station b b ≡ true
    itself = simp (eq-eqb b.row b.row refl, eq-eqb b.col b.col refl, eq-eqb b.dp b.dp refl)

    by_test : (x : Bool) → eqb i (length t) ≡ x → (i < length t → occurs b t ≡ true) → same_station b d || occurs b t ≡ true
    by_test true f deeper =
        let last : i ≡ length t = eqb-true i (length t) f in
        let same : b ≡ d = sym e ∙ ap (λ (n : ℕ). after p n a) last ∙ q in
        rw (← same) (rw itself refl)
    by_test false f deeper = rw (deeper (omega (arith, eqb-false i (length t) f))) (or_true (same_station b d))

-- where a station is new, none has come again so far
still_new : {p : Picture} {a b : Station} {past : Trail} {i j : ℕ} → occurs b past ≡ false → Along p a past → after p (length past) a ≡ b
    → i < j → after p i a ≡ after p j a → length past ≤ j → length past < j
still_new {p} {a} {b} {past} {i} {j} h g e k q z = by_test (eqb j (length past)) refl
  where
    by_test : (x : Bool) → eqb j (length past) ≡ x → length past < j
    by_test true f =
        let last : j ≡ length past = eqb-true j (length past) f in
        let there = at_occurs b i g (omega (arith, last)) (q ∙ ap (λ (n : ℕ). after p n a) last ∙ e) in
        clash (cc)
    by_test false f = omega (arith, eqb-false j (length past) f)

-- so the slide is lost no later than any station comes again
lost_first : {p : Picture} {a : Station} {past t : Trail} {r c i j : ℕ} {s : PointerState} → Slide p comes_back past r c s t None
    → Along p a past → after p (length past) a ≡ station r c s → i < j → after p i a ≡ after p j a → length past ≤ j → length t ≤ j + 1
unfolding comes_back after
lost_first (lost h) g e k q z = omega arith
lost_first {p} {r = r} {c = c} {s = s} (turn h l d) g e k q z = lost_first d (more e g) (ap (onward p) e ∙ onward_turn p r c s l) k q (omega (arith, still_new h g e k q z))
lost_first {p} {r = r} {c = c} {s = s} (move h l d) g e k q z = lost_first d (more e g) (ap (onward p) e ∙ onward_move p r c s l) k q (omega (arith, still_new h g e k q z))

pub lost_soonest : {p : Picture} {t : Trail} {r c i j : ℕ} {s : PointerState} → Slide p comes_back [] r c s t None
    → i < j → after p i (station r c s) ≡ after p j (station r c s) → looks_of None t ≤ j
unfolding after looks_of
lost_soonest d k q = omega (arith, lost_first d none refl k q (omega arith))

pub lost_rounds : {p : Picture} {t : Trail} {r c : ℕ} {s : PointerState} → Slide p comes_back [] r c s t None
    → (m : ℕ) × (l : ℕ) × Loop p (station r c s) m l × (looks_of None t ≡ m + l)
unfolding after looks_of
lost_rounds d =
    let (m, l, o, q) = lost_loop d none refl in
    (m, l, o, omega (arith, q))
