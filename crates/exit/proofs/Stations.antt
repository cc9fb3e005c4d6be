-- A grid has four stations a codel, so a trail on which none comes twice is no longer than that: edition 2's slide ends.
--     page_slide_total    every slide from a codel of the grid ends
--     page_slide_short    within four looks for each codel of the picture
--     no_landing_lost     where no landing comes, it is lost
-- Assumes nothing.
use mathlib.Core.Path.{◌≡◌, refl, sym, ◌∙◌}
use mathlib.Core.Bool.{Bool, true, false, cond}
use mathlib.Core.List.{List, [], ◌∷◌}
use Prim.Native.Nat.{ℕ, zero, suc, ◌+◌, ◌*◌, ◌<◌, ◌≤◌}
use native.Mathlib.Omega.{arith}
use borrow.Author.Tests.{eqb-true, eq-eqb}
use lib.Arith.{digits_lt, digits_div, digits_mod}
use lib.Dec.{eqb}
use lib.ListN.{length}
use Rattle.std.specs.Prelude.{Option, Some, None}
use Rattle.exit.specs.declared.slide.Landed.{Landed}
use Rattle.base.specs.Counting.{count}
use Rattle.base.proofs.CountingLaws.{Below, none, more}
use Rattle.base.proofs.Pigeonhole.{Distinct, distinct_none, distinct_more, pigeonhole}
use Rattle.base.proofs.Tests.{neither}
use Rattle.flow.specs.Pointer.{Valid, turned_once}
use Rattle.flow.proofs.Order.{valid_turned}
use Rattle.flow.specs.declared.PointerState.{PointerState}
use Rattle.picture.specs.Picture.{Picture, Inside, rows_of, cols_of, codels}
use Rattle.exit.specs.declared.slide.Sight.{Sight}
use Rattle.exit.specs.declared.slide.Sight.TheVariants.{Shut, White, Coloured}
use Rattle.exit.specs.Trail.{Station, station, Trail, same_station, occurs, comes_back}
use Rattle.exit.specs.Slide.{landed, look_of, Slide, lost, turn, move, land, Ends, looks_of}
use Rattle.exit.proofs.SlideLaws.{white_inside}
use Rattle.exit.proofs.Lands.{LandsIn, lands_again, lands_with}
use Rattle.exit.proofs.Lands as landings

pub record OnGrid (p : Picture) (a : Station) : Type 0 where
  pub row_in : a.row < rows_of p
  pub col_in : a.col < cols_of p
  pub dp_in : a.dp < 4

pub on_grid : {p : Picture} {r c : ℕ} {s : PointerState} → Inside p r c → Valid s → OnGrid p (station r c s)
on_grid i v = record { row_in = i.row_in; col_in = i.col_in; dp_in = v.dp }

-- the number of a station: four a codel
unfoldable code_of : ℕ → Station → ℕ
code_of cols a = (a.row * cols + a.col) * 4 + a.dp

unfoldable codes : ℕ → Trail → List ℕ
codes cols [] = []
codes cols (a ∷ t) = code_of cols a ∷ codes cols t

codes_length : (cols : ℕ) (t : Trail) → length (codes cols t) ≡ length t
unfolding codes
codes_length cols [] = refl
codes_length cols (a ∷ t) = omega (arith, codes_length cols t)

code_below : {p : Picture} {a : Station} → OnGrid p a → code_of (cols_of p) a < 4 * codels p
unfolding code_of
code_below {p} {a} g = omega (arith, digits_lt g.row_in g.col_in, g.dp_in)

code_one : {p : Picture} {a b : Station} → OnGrid p a → OnGrid p b → code_of (cols_of p) b ≡ code_of (cols_of p) a → same_station a b ≡ true
unfolding code_of
code_one {p} {a} {b} g h e =
    let d : a.dp ≡ b.dp = omega (arith, g.dp_in, h.dp_in, e) in
    let i : a.row * cols_of p + a.col ≡ b.row * cols_of p + b.col = omega (arith, g.dp_in, h.dp_in, e) in
    let r : a.row ≡ b.row = sym (digits_div a.row g.col_in) ∙ (rw i (digits_div b.row h.col_in)) in
    let c : a.col ≡ b.col = sym (digits_mod a.row g.col_in) ∙ (rw i (digits_mod b.row h.col_in)) in
    simp (eq-eqb a.row b.row r, eq-eqb a.col b.col c, eq-eqb a.dp b.dp d)

-- a trail over the grid on which no station comes twice
pub data Once (p : Picture) : Trail → Type 0 where
  begins : Once p []
  goes : {a : Station} {t : Trail} → OnGrid p a → occurs a t ≡ false → Once p t → Once p (a ∷ t)

absent : {p : Picture} {a : Station} {t : Trail} → OnGrid p a → occurs a t ≡ false → Once p t → count (code_of (cols_of p) a) (codes (cols_of p) t) ≡ 0
unfolding codes count occurs
absent g e begins = refl
absent {p} {a} g e (goes {a = b} {t = t} h f o) =
    let (other, rest) = neither (same_station a b) (occurs a t) e in
    by_test (eqb (code_of (cols_of p) b) (code_of (cols_of p) a)) refl other (absent g rest o)
  where
    by_test : (x : Bool) → eqb (code_of (cols_of p) b) (code_of (cols_of p) a) ≡ x → same_station a b ≡ false
        → count (code_of (cols_of p) a) (codes (cols_of p) t) ≡ 0
        → cond (eqb (code_of (cols_of p) b) (code_of (cols_of p) a)) 1 0 + count (code_of (cols_of p) a) (codes (cols_of p) t) ≡ 0
    by_test true q other rest =
        let same = code_one g h (eqb-true (code_of (cols_of p) b) (code_of (cols_of p) a) q) in
        let z : ◌≡◌ {A = ℕ} 0 1 = cc in
        absurd (omega arith)
    by_test false q other rest = rw q (omega (arith, rest))

codes_below : {p : Picture} {t : Trail} → Once p t → Below (4 * codels p) (codes (cols_of p) t)
unfolding codes
codes_below begins = none
codes_below (goes g e o) = more (code_below g) (codes_below o)

codes_distinct : {p : Picture} {t : Trail} → Once p t → Distinct (codes (cols_of p) t)
unfolding codes
codes_distinct begins = distinct_none
codes_distinct {p} (goes {a = a} {t = t} g e o) = distinct_more (code_of (cols_of p) a) (codes (cols_of p) t) (absent g e o) (codes_distinct o)

-- four stations a codel
pub once_short : {p : Picture} {t : Trail} → Once p t → length t ≤ 4 * codels p
once_short {p} {t} o = omega (arith, codes_length (cols_of p) t, pigeonhole (codes_below o) (codes_distinct o))

-- a slide that has had the stations `past` ends
abbrev Goes : Picture → Trail → ℕ → ℕ → PointerState → Type 0
Goes p past r c s = (t : Trail) × (o : Option Landed) × Slide p comes_back past r c s t o

-- by recursion on the stations that are left
goes_on : (k : ℕ) {p : Picture} {past : Trail} (r c : ℕ) (s : PointerState) → Once p past → Inside p r c → Valid s → 4 * codels p < length past + k
    → Goes p past r c s
unfolding comes_back
goes_on zero r c s q i v h = absurd (omega (arith, once_short q, h))
goes_on (suc k) {p} {past} r c s q i v h = by_test (λ a b u w j z. goes_on k a b u w j z (omega arith)) (occurs here past) refl
  where
    here : Station
    here = station r c s

    Next : Type 0
    Next = (a b : ℕ) (u : PointerState) → Once p (here ∷ past) → Inside p a b → Valid u → Goes p (here ∷ past) a b u

    see : Next → occurs here past ≡ false → (x : Sight) → look_of p r c s.dp ≡ x → Goes p past r c s
    see go f Shut e =
        let (t, o, d) = go r c (turned_once s) (goes (on_grid i v) f q) i (valid_turned s v) in
        (t, o, turn f e d)
    see go f (White a b) e =
        let (t, o, d) = go a b s (goes (on_grid i v) f q) (white_inside p r c s.dp i e) v in
        (t, o, move f e d)
    see go f (Coloured a b) e = (here ∷ past, Some (landed a b s), land f e)

    by_test : Next → (x : Bool) → occurs here past ≡ x → Goes p past r c s
    by_test go true e = (here ∷ past, None, lost e)
    by_test go false e = see go e (look_of p r c s.dp) refl

-- a slide of edition 2 ends
pub page_slide_total : (p : Picture) (r c : ℕ) (s : PointerState) → Inside p r c → Valid s → (o : Option Landed) × Ends p comes_back r c s o
page_slide_total p r c s i v =
    let (t, o, d) = goes_on (suc (4 * codels p)) r c s begins i v (omega arith) in
    (o, record { trail = t; slides = d })

-- the stations from which it looks ahead are all different
short : {p : Picture} {past t : Trail} {r c : ℕ} {s : PointerState} {o : Option Landed}
    → Slide p comes_back past r c s t o → Once p past → Inside p r c → Valid s → looks_of o t ≤ 4 * codels p
unfolding comes_back looks_of
short (lost h) q i v = omega (arith, once_short q)
short (turn h e d) q i v = short d (goes (on_grid i v) h q) i (valid_turned _ v)
short {p} {r = r} {c = c} {s = s} (move h e d) q i v = short d (goes (on_grid i v) h q) (white_inside p r c s.dp i e) v
short (land h e) q i v = once_short (goes (on_grid i v) h q)

-- so it ends within four looks for each codel of the picture
pub page_slide_short : {p : Picture} {t : Trail} {r c : ℕ} {s : PointerState} {o : Option Landed}
    → Slide p comes_back [] r c s t o → Inside p r c → Valid s → looks_of o t ≤ 4 * codels p
page_slide_short d i v = short d begins i v

-- what lands at all lands in fewer moves and turns than there are stations
pub lands_soon : {p : Picture} {r c k : ℕ} {s : PointerState} → Inside p r c → Valid s → LandsIn p r c s.dp k → k < 4 * codels p
unfolding looks_of
lands_soon {p} {s = s} i v l =
    let (t, a, b, u, d, n) = lands_with s refl l landings.none in
    let few : length t ≤ 4 * codels p = page_slide_short d i v in
    omega (arith, n)

-- and where no landing comes edition 2's slide is lost
pub no_landing_lost : {p : Picture} {r c : ℕ} {s : PointerState} → Inside p r c → Valid s → ((k : ℕ) → LandsIn p r c s.dp k → ⊥) → Ends p comes_back r c s None
no_landing_lost {p} {r} {c} {s} i v never = by_end (page_slide_total p r c s i v)
  where
    by_end : (o : Option Landed) × Ends p comes_back r c s o → Ends p comes_back r c s None
    by_end (Some o, x) = let (k, l, f) = lands_again x.slides in absurd (never k l)
    by_end (None, x) = x
