-- A slide lands or it does not, whatever rule watches it, since a codel with a dp decides where it goes on.
--     lands_back    a landing by any rule is one of edition 2, by the same trail
-- Assumes nothing.
use mathlib.Core.Path.{◌≡◌, refl, subst}
use mathlib.Core.Bool.{Bool, true, false, ◌||◌}
use mathlib.Core.List.{[], ◌∷◌}
use Prim.Native.Nat.{ℕ, suc, ◌+◌, ◌%◌, ◌<◌}
use native.Mathlib.Omega.{arith}
use borrow.Author.Tests.{eqb-true}
use lib.Dec.{eqb}
use lib.ListN.{length}
use Rattle.std.specs.Prelude.{Some}
use Rattle.base.proofs.Clash.{clash}
use Rattle.base.proofs.Tests.{and_both}
use Rattle.flow.specs.Pointer.{turned_once}
use Rattle.flow.specs.declared.PointerState.{PointerState}
use Rattle.picture.specs.Picture.{Picture}
use Rattle.exit.specs.declared.slide.Sight.{Sight}
use Rattle.exit.specs.declared.slide.Sight.TheVariants.{Shut, White, Coloured}
use Rattle.exit.specs.Trail.{Station, station, Trail, Rule, same_station, occurs, comes_back}
use Rattle.exit.specs.Slide.{landed, look_of, Slide, turn, move, land}

-- `LandsIn p r c d k`: from codel (r, c) with dp d a coloured codel is ahead after k moves and turns
pub data LandsIn (p : Picture) : ℕ → ℕ → ℕ → ℕ → Type 0 where
  ahead : {r c d a b : ℕ} → look_of p r c d ≡ Coloured a b → LandsIn p r c d 0
  turned : {r c d k : ℕ} → look_of p r c d ≡ Shut → LandsIn p r c ((d + 1) % 4) k → LandsIn p r c d (suc k)
  moved : {r c d a b k : ℕ} → look_of p r c d ≡ White a b → LandsIn p a b d k → LandsIn p r c d (suc k)

same_codel : {p : Picture} {x : Sight} {a b a' b' d k : ℕ} → x ≡ White a b → x ≡ White a' b' → LandsIn p a' b' d k → LandsIn p a b d k
same_codel {p} {a = a} {b' = b'} {d = d} {k = k} e f l = subst (λ (y : ℕ). LandsIn p a y d k) (cc) (subst (λ (x : ℕ). LandsIn p x b' d k) (cc) l)

-- the same of a station
abbrev pub Lands : Picture → Station → ℕ → Type 0
Lands p a k = LandsIn p a.row a.col a.dp k

-- how many moves and turns are left is settled
pub lands_only : {p : Picture} {r c d k j : ℕ} → LandsIn p r c d k → LandsIn p r c d j → k ≡ j
lands_only (ahead e) (ahead f) = refl
lands_only (ahead e) (turned f l') = clash (cc)
lands_only (ahead e) (moved f l') = clash (cc)
lands_only (turned e l) (ahead f) = clash (cc)
lands_only (turned e l) (turned f l') = let q = lands_only l l' in omega arith
lands_only (turned e l) (moved f l') = clash (cc)
lands_only (moved e l) (ahead f) = clash (cc)
lands_only (moved e l) (turned f l') = clash (cc)
lands_only (moved e l) (moved f l') = let q = lands_only l (same_codel e f l') in omega arith

-- and one look on there is one less
pub after_turn : {p : Picture} {r c d k : ℕ} → look_of p r c d ≡ Shut → LandsIn p r c d k → (j : ℕ) × (k ≡ j + 1) × LandsIn p r c ((d + 1) % 4) j
after_turn e (ahead f) = clash (cc)
after_turn e (turned {k = k} f l) = (k, omega arith, l)
after_turn e (moved f l) = clash (cc)

pub after_move : {p : Picture} {r c d a b k : ℕ} → look_of p r c d ≡ White a b → LandsIn p r c d k → (j : ℕ) × (k ≡ j + 1) × LandsIn p a b d j
after_move e (ahead f) = clash (cc)
after_move e (turned f l) = clash (cc)
after_move e (moved {k = k} f l) = (k, omega arith, same_codel e f l)

-- each station of a trail lands, in more than k moves and turns
pub data Later (p : Picture) (k : ℕ) : Trail → Type 0 where
  none : Later p k []
  more : {a : Station} {t : Trail} {j : ℕ} → k < j → LandsIn p a.row a.col a.dp j → Later p k t → Later p k (a ∷ t)

later_less : {p : Picture} {k : ℕ} {t : Trail} → Later p (suc k) t → Later p k t
later_less none = none
later_less (more {j = j} h l q) = more {j = j} (omega arith) l (later_less q)

pub same_stations : (a b : Station) → same_station a b ≡ true → (a.row ≡ b.row) × (a.col ≡ b.col) × (a.dp ≡ b.dp)
same_stations a b e =
    let x = and_both (eqb a.row b.row) _ e in
    let y = and_both (eqb a.col b.col) _ x.1 in
    (eqb-true a.row b.row x.0, eqb-true a.col b.col y.0, eqb-true a.dp b.dp y.1)

-- equal stations land alike
pub lands_same : {p : Picture} {r c d r' c' d' k : ℕ} → r ≡ r' → c ≡ c' → d ≡ d' → LandsIn p r c d k → LandsIn p r' c' d' k
lands_same {p} {r} {c} {d} {r'} {c'} {d'} {k} x y z l =
    subst (λ (n : ℕ). LandsIn p r' c' n k) z (subst (λ (n : ℕ). LandsIn p r' n d k) y (subst (λ (n : ℕ). LandsIn p n c d k) x l))

-- so a station that lands in k is none of those
later_new : {p : Picture} {k : ℕ} {t : Trail} (a : Station) → LandsIn p a.row a.col a.dp k → Later p k t → occurs a t ≡ false
unfolding occurs
later_new a l none = refl
later_new {p} {k} a l (more {a = b} {t = t} {j = j} h m q) = by_test (same_station a b) refl (later_new a l q)
  where
    by_test : (x : Bool) → same_station a b ≡ x → occurs a t ≡ false → (same_station a b || occurs a t) ≡ false
    by_test true e f =
        let (x, y, z) = same_stations a b e in
        let same = lands_only (lands_same x y z l) m in
        absurd (omega arith)
    by_test false e f = rw e f

-- a landing by any rule: no station of it comes again, so edition 2's slide takes the same trail
pub lands_again : {p : Picture} {rule : Rule} {past t : Trail} {r c a b : ℕ} {s u : PointerState} → Slide p rule past r c s t (Some (landed a b u))
    → (k : ℕ) × LandsIn p r c s.dp k × (Later p k past → Slide p comes_back past r c s t (Some (landed a b u)))
unfolding comes_back
lands_again {r = r} {c = c} {s = s} (turn h e d) =
    let (k, l, f) = lands_again d in
    let here = turned e l in
    (suc k, here, λ q. turn (later_new (station r c s) here q) e (f (more {j = suc k} (omega arith) here (later_less q))))
lands_again {r = r} {c = c} {s = s} (move h e d) =
    let (k, l, f) = lands_again d in
    let here = moved e l in
    (suc k, here, λ q. move (later_new (station r c s) here q) e (f (more {j = suc k} (omega arith) here (later_less q))))
lands_again {r = r} {c = c} {s = s} (land h e) = (0, ahead e, λ q. land (later_new (station r c s) (ahead e) q) e)

pub lands_back : {p : Picture} {rule : Rule} {t : Trail} {r c a b : ℕ} {s u : PointerState}
    → Slide p rule [] r c s t (Some (landed a b u)) → Slide p comes_back [] r c s t (Some (landed a b u))
lands_back d = (lands_again d).2 none

-- what lands in k, edition 2's slide lands with
pub lands_with : {p : Picture} {past : Trail} {r c d k : ℕ} (s : PointerState) → s.dp ≡ d → LandsIn p r c d k → Later p k past
    → (t : Trail) × (a : ℕ) × (b : ℕ) × (u : PointerState) × Slide p comes_back past r c s t (Some (landed a b u)) × (length t ≡ length past + k + 1)
unfolding comes_back
lands_with {p} {past} {r} {c} s q (ahead {a = a} {b = b} e) l =
    let e' : look_of p r c s.dp ≡ Coloured a b = rw q e in
    (station r c s ∷ past, a, b, s, land (later_new (station r c s) (ahead e') l) e', omega arith)
lands_with {p} {past} {r} {c} s q (turned {k = k} e m) l =
    let e' : look_of p r c s.dp ≡ Shut = rw q e in
    let m' : LandsIn p r c ((s.dp + 1) % 4) k = rw q m in
    let here = turned e' m' in
    let (t, a, b, u, f, n) = lands_with {past = station r c s ∷ past} (turned_once s) (rw q) m (more {a = station r c s} {j = suc k} (omega arith) here (later_less l)) in
    (t, a, b, u, turn (later_new (station r c s) here l) e' f, omega arith)
lands_with {p} {past} {r} {c} s q (moved {a = a'} {b = b'} {k = k} e m) l =
    let e' : look_of p r c s.dp ≡ White a' b' = rw q e in
    let m' : LandsIn p a' b' s.dp k = rw q m in
    let here = moved e' m' in
    let (t, a, b, u, f, n) = lands_with {past = station r c s ∷ past} s q m (more {a = station r c s} {j = suc k} (omega arith) here (later_less l)) in
    (t, a, b, u, move (later_new (station r c s) here l) e' f, omega arith)
