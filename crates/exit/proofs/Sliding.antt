-- A slide under way: what the loop of `slide` keeps, and that each of its turns and moves leaves less to do. Assumes
-- nothing.
use mathlib.Core.Path.{◌≡◌, sym, ap, subst, ◌∙◌}
use mathlib.Core.Bool.{false}
use mathlib.Core.List.{[], ◌∷◌}
use Prim.Native.Nat.{ℕ, suc, ◌+◌, ◌-◌, ◌*◌, ◌<◌, ◌≤◌}
use native.Mathlib.Omega.{arith}
use borrow.Author.Tests.{le-leb, lt-leb}
use Rattle.std.specs.Prelude.{Option, Some, None}
use Rattle.exit.specs.declared.slide.Landed.{Landed}
use Rattle.flow.specs.Pointer.{Valid, turned_once}
use Rattle.flow.proofs.Order.{valid_turned}
use Rattle.flow.proofs.NeighbourLaws.{room, room_small, room_less}
use Rattle.flow.specs.declared.PointerState.{PointerState}
use Rattle.picture.specs.Picture.{Picture, Inside, rows_of, cols_of}
use Rattle.exit.specs.declared.slide.Sight.TheVariants.{Shut, White, Coloured}
use Rattle.exit.specs.Trail.{station, Trail, most_turns, turns_of, eighth_turn}
use Rattle.exit.specs.Slide.{landed, look_of, Slide, lost, turn, move, land, Ends}
use Rattle.exit.proofs.SlideLaws.{white_ahead, white_inside}
use Rattle.exit.proofs.TrailLaws.{no_turns, turns_turn, turns_move}

-- the turns left, each worth more than any room ahead, and the room ahead
unfoldable pub measure : Picture → ℕ → ℕ → PointerState → ℕ → ℕ
measure p r c s n = (most_turns - n) * (rows_of p + cols_of p) + room (rows_of p) (cols_of p) r c s.dp

one_less : (n k a b : ℕ) → n < most_turns → b < k → (most_turns - (n + 1)) * k + b < (most_turns - n) * k + a
one_less n k a b h l =
    let e : most_turns - n ≡ suc (most_turns - (n + 1)) = omega arith in
    rw e (omega arith)

pub turn_less : (p : Picture) (r c : ℕ) (s t : PointerState) (n : ℕ) → Inside p r c → n < most_turns → measure p r c t (n + 1) < measure p r c s n
unfolding measure
turn_less p r c s t n i h = one_less n _ _ _ h (room_small _ _ r c t.dp i.row_in i.col_in)

pub move_less : (p : Picture) (r c a b : ℕ) (s : PointerState) (n : ℕ) → Inside p r c → look_of p r c s.dp ≡ White a b → measure p a b s n < measure p r c s n
unfolding measure
move_less p r c a b s n i e =
    omega (arith, room_less (rows_of p) (cols_of p) r c s.dp a b i.row_in i.col_in (white_ahead p r c s.dp e))

-- a slide that began at (r₀, c₀) in state s₀ stands at (r, c) in state s after n turns: as it goes on from here, so it ends
-- from there
pub record Sliding (p : Picture) (r₀ c₀ : ℕ) (s₀ : PointerState) (r c : ℕ) (s : PointerState) (n : ℕ) : Type 0 where
  pub place : Inside p r c
  pub valid : Valid s
  pub few : n ≤ most_turns
  pub past : Trail
  pub turned : n ≡ turns_of (station r c s ∷ past)
  pub rest : (t : Trail) (o : Option Landed) → Slide p eighth_turn past r c s t o → Slide p eighth_turn [] r₀ c₀ s₀ t o

pub begins : {p : Picture} {r c : ℕ} {s : PointerState} → Inside p r c → Valid s → Sliding p r c s r c s 0
begins {r = r} {c = c} {s = s} i v =
    record { place = i; valid = v; few = omega arith; past = []; turned = sym (no_turns (station r c s)); rest = λ t o d. d }

below : {n : ℕ} → n ≤ most_turns → (n ≡ most_turns → ⊥) → n < most_turns
below h k = omega arith

module _ {p : Picture} {r₀ c₀ : ℕ} {s₀ : PointerState} {r c : ℕ} {s : PointerState} {n : ℕ} (S : Sliding p r₀ c₀ s₀ r c s n) where
  pub loses : n ≡ most_turns → Ends p eighth_turn r₀ c₀ s₀ None
  unfolding eighth_turn
  loses h =
      record {
        trail = station r c s ∷ S.past;
        slides = S.rest _ _ (lost (le-leb most_turns (turns_of (station r c s ∷ S.past)) (omega (arith, S.turned))));
      }

  module _ (h : n ≡ most_turns → ⊥) where
    on : eighth_turn (station r c s ∷ S.past) ≡ false
    unfolding eighth_turn
    on = lt-leb most_turns (turns_of (station r c s ∷ S.past)) (omega (arith, S.turned, below S.few h))

    turned : look_of p r c s.dp ≡ Shut → Sliding p r₀ c₀ s₀ r c (turned_once s) (n + 1)
    turned e =
        record {
          place = S.place;
          valid = valid_turned s S.valid;
          few = omega (arith, below S.few h);
          past = station r c s ∷ S.past;
          turned = ap (λ (x : ℕ). x + 1) S.turned ∙ sym (turns_turn r c s S.past);
          rest = λ t o d. S.rest t o (turn on e d);
        }

    pub turns : {u : PointerState} → look_of p r c s.dp ≡ Shut → u ≡ turned_once s → Sliding p r₀ c₀ s₀ r c u (n + 1)
    turns e q = subst (λ (u : PointerState). Sliding p r₀ c₀ s₀ r c u (n + 1)) (sym q) (turned e)

    pub turns_less : (t : PointerState) → measure p r c t (n + 1) < measure p r c s n
    turns_less t = turn_less p r c s t n S.place (below S.few h)

    pub moves : {a b : ℕ} → look_of p r c s.dp ≡ White a b → Sliding p r₀ c₀ s₀ a b s n
    moves {a} {b} e =
        record {
          place = white_inside p r c s.dp S.place e;
          valid = S.valid;
          few = S.few;
          past = station r c s ∷ S.past;
          turned = S.turned ∙ sym (turns_move r c s S.past a b);
          rest = λ t o d. S.rest t o (move on e d);
        }

    pub lands : {a b : ℕ} → look_of p r c s.dp ≡ Coloured a b → Ends p eighth_turn r₀ c₀ s₀ (Some (landed a b s))
    lands e = record { trail = station r c s ∷ S.past; slides = S.rest _ _ (land on e) }
