-- Every slide of edition 1 from a codel of the grid ends, and where a slide of either edition lands is a coloured codel of the
-- grid. Assumes nothing.
use mathlib.Core.Path.{◌≡◌, refl, sym, ap, ◌∙◌}
use mathlib.Core.Bool.{Bool, true, false}
use mathlib.Core.List.{[], ◌∷◌}
use Prim.Native.Nat.{ℕ, zero, suc, ◌+◌, ◌<◌}
use native.Mathlib.Omega.{arith}
use borrow.Author.Tests.{leb-false}
use Rattle.std.specs.Prelude.{Option, Some, None}
use Rattle.exit.specs.declared.slide.Landed.{Landed}
use Rattle.colour.specs.Palette.{black, white}
use Rattle.flow.specs.Pointer.{Valid, turned_once}
use Rattle.flow.proofs.Order.{valid_turned}
use Rattle.flow.specs.declared.PointerState.{PointerState}
use Rattle.picture.specs.Picture.{Picture, Inside, colour_at}
use Rattle.exit.specs.declared.slide.Sight.{Sight}
use Rattle.exit.specs.declared.slide.Sight.TheVariants.{Shut, White, Coloured}
use Rattle.exit.specs.Trail.{station, Trail, Rule, most_turns, turns_of, eighth_turn}
use Rattle.exit.specs.Slide.{landed, look_of, Slide, lost, turn, move, land, Ends}
use Rattle.exit.proofs.SlideLaws.{coloured_inside, coloured_colour, white_inside}
use Rattle.exit.proofs.Sliding.{measure, turn_less, move_less}
use Rattle.exit.proofs.TrailLaws.{no_turns, turns_turn, turns_move}

-- while the eighth turn is not made, turns are left
turns_left : (past : Trail) (r c : ℕ) (s : PointerState) → eighth_turn (station r c s ∷ past) ≡ false → turns_of (station r c s ∷ past) < most_turns
unfolding eighth_turn
turns_left past r c s g = leb-false most_turns (turns_of (station r c s ∷ past)) g

-- some trail and some end
abbrev Ending : Picture → Trail → ℕ → ℕ → PointerState → Type 0
Ending p past r c s = (t : Trail) × (o : Option Landed) × Slide p eighth_turn past r c s t o

-- by recursion on a bound of the measure
ends : (k : ℕ) (p : Picture) (past : Trail) (r c : ℕ) (s : PointerState) (n : ℕ) → n ≡ turns_of (station r c s ∷ past) → Inside p r c → Valid s
    → measure p r c s n < k → Ending p past r c s
ends zero p past r c s n q i v l = absurd (omega arith)
ends (suc k) p past r c s n q i v l =
    by_rule (λ a b u m x j w less. ends k p (station r c s ∷ past) a b u m x j w (omega arith)) (eighth_turn (station r c s ∷ past)) refl
  where
    Less : Type 0
    Less =
        (a b : ℕ) (u : PointerState) (m : ℕ) → m ≡ turns_of (station a b u ∷ station r c s ∷ past) → Inside p a b → Valid u → measure p a b u m < measure p r c s n
        → Ending p (station r c s ∷ past) a b u

    see : Less → eighth_turn (station r c s ∷ past) ≡ false → n < most_turns → (x : Sight) → look_of p r c s.dp ≡ x → Ending p past r c s
    see go g h Shut e =
        let (t, o, d) = go r c (turned_once s) (n + 1) (ap (λ (x : ℕ). x + 1) q ∙ sym (turns_turn r c s past)) i (valid_turned s v) (turn_less p r c s (turned_once s) n i h) in
        (t, o, turn g e d)
    see go g h (White a b) e =
        let (t, o, d) = go a b s n (q ∙ sym (turns_move r c s past a b)) (white_inside p r c s.dp i e) v (move_less p r c a b s n i e) in
        (t, o, move g e d)
    see go g h (Coloured a b) e = (station r c s ∷ past, Some (landed a b s), land g e)

    by_rule : Less → (x : Bool) → eighth_turn (station r c s ∷ past) ≡ x → Ending p past r c s
    by_rule go true g = (station r c s ∷ past, None, lost g)
    by_rule go false g = see go g (omega (arith, turns_left past r c s g, q)) (look_of p r c s.dp) refl

-- a slide of edition 1 ends
pub rust_slide_total : (p : Picture) (r c : ℕ) (s : PointerState) → Inside p r c → Valid s → (o : Option Landed) × Ends p eighth_turn r c s o
rust_slide_total p r c s i v =
    let (t, o, d) = ends (suc (measure p r c s 0)) p [] r c s 0 (sym (no_turns (station r c s))) i v (omega arith) in
    (o, record { trail = t; slides = d })

-- where a slide lands, whatever its rule: in the grid, in a state, on neither black nor white
pub record Landing (p : Picture) (a b : ℕ) (t : PointerState) : Type 0 where
  pub place : Inside p a b
  pub valid : Valid t
  pub not_black : colour_at p a b ≡ black → ⊥
  pub not_white : colour_at p a b ≡ white → ⊥

lands_at : {p : Picture} {rule : Rule} {past t : Trail} {r c a b : ℕ} {s u : PointerState}
    → Slide p rule past r c s t (Some (landed a b u)) → Inside p r c → Valid s → Landing p a b u
lands_at (turn h e d) i v = lands_at d i (valid_turned _ v)
lands_at {p} {r = r} {c = c} {s = s} (move h e d) i v = lands_at d (white_inside p r c s.dp i e) v
lands_at {p} {r = r} {c = c} {s = s} (land h e) i v =
    let q = coloured_colour p r c s.dp e in
    record { place = coloured_inside p r c s.dp i e; valid = v; not_black = q.0; not_white = q.1 }

pub landing : {p : Picture} {rule : Rule} {r c a b : ℕ} {s u : PointerState} → Ends p rule r c s (Some (landed a b u)) → Inside p r c → Valid s → Landing p a b u
landing x i v = lands_at x.slides i v
