-- The definitions meet the public page's rules of colours, of the start and of motion (rules 14.1 to 14.8). The table of the codel to leave by is `side_table` (exit, proof Page). Assumes nothing.
use mathlib.Core.Path.{◌≡◌, refl, sym, ap, subst, ◌∙◌}
use mathlib.Core.Bool.{Bool, true, false, cond}
use mathlib.Core.List.{List, [], ◌∷◌, map}
use mathlib.Core.Logic.{◌↔◌}
use Prim.Native.Nat.{ℕ, ◌+◌, ◌-◌, ◌/◌, ◌%◌, ◌<◌, ◌≤◌}
use native.Mathlib.Nat.{zero-mul}
use native.Mathlib.Omega.{arith}
use borrow.Author.Tests.{lt-ltb, le-ltb, ltb-true, ltb-false, ne_eqb}
use lib.Dec.{ltb}
use lib.ListN.{length, get_or, get_or-map}
use Rattle.exit.specs.declared.slide.Landed.{Landed}
use Rattle.std.specs.Prelude.{Some, None, Option}
use Rattle.base.proofs.Table.{all_at}
use Rattle.base.specs.declared.edition.Edition.{Edition}
use Rattle.colour.specs.Palette.{rgb, same, palette, black, white}
use Rattle.colour.proofs.LookupLaws.{same_bytes}
use Rattle.colour.specs.Decode as decoding
use Rattle.colour.specs.Decode.{decode_of}
use Rattle.flow.specs.declared.PointerState.{PointerState}
use Rattle.flow.specs.Pointer.{Valid, attempt_of, flipped, clockwise}
use Rattle.flow.specs.Neighbour.{ahead_of}
use Rattle.picture.specs.Picture.{Picture, rows_of, cols_of, codels, colour_at, Sound}
use Rattle.picture.proofs.Codels.{cols_pos, first_in}
use Rattle.region.specs.Grid.{grid_of}
use Rattle.region.specs.Region.{IsMap}
use Rattle.region.proofs.MapLaws.{map_low}
use Rattle.exit.specs.declared.slide.Sight.TheVariants.{Shut, White, Coloured}
use Rattle.exit.specs.declared.attempt.Way.TheVariants.{Glide}
use Rattle.exit.specs.Trail.{station, Trail, Rule}
use Rattle.exit.specs.Slide.{landed, look_of, seen, seen_as, Slide, lost, turn, move, land}
use Rattle.exit.specs.Leaving.{LeavesBy, behind, reach, side_of, beats, further}
use Rattle.exit.specs.Opens.{region_at, Tried, Opens, beside, across}
use Rattle.exit.proofs.Opening.{same_way}
use Rattle.machine.specs.declared.Op.{Op}
use Rattle.machine.specs.declared.Op.TheVariants.{Nothing}
use Rattle.machine.specs.declared.Stop.TheVariants.{Completed}
use Rattle.machine.specs.Machine.{Given, RunRoom, Store, does, op_numbered, exec}
use Rattle.machine.specs.Place.{start, End}
use Rattle.piet.specs.Moves.{ShutBefore, all_shut}
use Rattle.piet.specs.Follows.{Follows}
use Rattle.piet.specs.Page.{colours, line, column, commands, right, down, left, up, to_left}
use Rattle.base.proofs.Clash.{clash}

-- ---- colours (rule 14.1)

-- the page's table: each of the eighteen colours stands in it, in the line and the column of its number
pub colour_table : (c : ℕ) → c < 18 → get_or palette c (rgb 0 0 0) ≡ get_or (get_or colours (line c) []) (column c) (rgb 0 0 0)
colour_table c h =
    same_bytes _ _ (all_at 18 (λ k. same (get_or palette k (rgb 0 0 0)) (get_or (get_or colours (line k) []) (column k) (rgb 0 0 0))) tt c h)

-- white is all bytes full, black none
pub white_black : (get_or palette white (rgb 0 0 0) ≡ rgb 0xFF 0xFF 0xFF) × (get_or palette black (rgb 1 1 1) ≡ rgb 0x00 0x00 0x00)
white_black = (refl, refl)

-- ---- commands, by the steps of hue and the steps darker from the block left to the block entered; dark to light is one
-- step darker (rule 14.2)

hues : (a b i : ℕ) → a < 6 → b < 6 → i < 6 → b ≡ (a + i) % 6 → (b + 6 - a) % 6 ≡ i
hues a b i ha hb hi e = omega arith

steps_darker : (a b j : ℕ) → a < 3 → b < 3 → j < 3 → 2 - b ≡ (2 - a + j) % 3 → (a + 3 - b) % 3 ≡ j
steps_darker a b j ha hb hj e = omega arith

pub command_table : (from to i j : ℕ) → from < 18 → to < 18 → i < 6 → j < 3 → column to ≡ (column from + i) % 6 → line to ≡ (line from + j) % 3
    → op_numbered (decode_of from to) ≡ get_or (get_or commands i []) j Nothing
unfolding decode_of
command_table from to i j f t hi hj e d =
    rw (
      lt-ltb from 18 f,
      lt-ltb to 18 t,
      hues (from % 6) (to % 6) i (omega arith) (omega arith) hi e,
      steps_darker (from / 6) (to / 6) j (omega arith) (omega arith) hj d,
    )
    (sym (get_or-map op_numbered (get_or decoding.commands i []) j 0) ∙ ap (λ (l : List Op). get_or l j Nothing) (sym (get_or-map (map op_numbered) decoding.commands i [])))

-- ---- the start: the block of the upper left codel, dp right, cc left, an empty stack (rule 14.4)

pub start_block : {p : Picture} {map : List ℕ} {n : ℕ} → Sound p → IsMap (grid_of p) map n → region_at p map 0 0 ≡ start.region
start_block {p} {map} {n} S M = rw (zero-mul (cols_of p)) (least (map_low (grid_of p) map n M 0 (first_in S)))
  where
    least : {k : ℕ} → k ≤ 0 → k ≡ 0
    least h = omega arith

pub start_pointers : (start.store.pointers ≡ record { dp = right; cc = to_left }) × (start.store.stack ≡ [])
start_pointers = (refl, refl)

-- one codel along dp, or over the edge (rule 14.6)
module _ (rows cols r c : ℕ) where
  pub ahead_right : c + 1 < cols → ahead_of rows cols r c right ≡ Some (r, c + 1)
  unfolding ahead_of
  ahead_right h = rw (lt-ltb (c + 1) cols h)

  pub ahead_down : r + 1 < rows → ahead_of rows cols r c down ≡ Some (r + 1, c)
  unfolding ahead_of
  ahead_down h = rw (lt-ltb (r + 1) rows h)

  pub ahead_left : 0 < c → ahead_of rows cols r c left ≡ Some (r, c - 1)
  unfolding ahead_of
  ahead_left h = rw (lt-ltb 0 c h)

  pub ahead_up : 0 < r → ahead_of rows cols r c up ≡ Some (r - 1, c)
  unfolding ahead_of
  ahead_up h = rw (lt-ltb 0 r h)

  pub edge_right : c + 1 ≡ cols → ahead_of rows cols r c right ≡ None
  unfolding ahead_of
  edge_right h = rw (le-ltb (c + 1) cols (omega arith))

  pub edge_down : r + 1 ≡ rows → ahead_of rows cols r c down ≡ None
  unfolding ahead_of
  edge_down h = rw (le-ltb (r + 1) rows (omega arith))

  pub edge_left : c ≡ 0 → ahead_of rows cols r c left ≡ None
  unfolding ahead_of
  edge_left h = rw (le-ltb 0 c (omega arith))

  pub edge_up : r ≡ 0 → ahead_of rows cols r c up ≡ None
  unfolding ahead_of
  edge_up h = rw (le-ltb 0 r (omega arith))

-- the codel to leave by (rule 14.5): no codel of the block lies further toward dp, and of those as far none further to cc's
-- side
pub leaves_furthest : {map : List ℕ} {rows cols region i : ℕ} {s : PointerState} → LeavesBy map rows cols s region i → (j : ℕ) → j < length map → get_or map j 0 ≡ region
    → (reach rows cols s.dp j ≤ reach rows cols s.dp i)
    × (reach rows cols s.dp j ≡ reach rows cols s.dp i → reach rows cols (side_of s) j ≤ reach rows cols (side_of s) i)
unfolding beats
leaves_furthest {rows = rows} {cols = cols} {i = i} {s = s} L j h e =
    no_more (reach rows cols s.dp j) (reach rows cols (side_of s) j) (reach rows cols s.dp i) (reach rows cols (side_of s) i) (L.unbeaten j h e)
  where
    no_more : (a b a' b' : ℕ) → further a b a' b' ≡ false → (a ≤ a') × (a ≡ a' → b ≤ b')
    no_more a b a' b' h = first (ltb a' a) refl h
      where
        last : (t : Bool) → ltb b' b ≡ t → t ≡ false → b ≤ b'
        last true e h = clash (cc)
        last false e h = ltb-false b' b e

        second : (t : Bool) → ltb a a' ≡ t → a ≤ a' → cond t false (ltb b' b) ≡ false → (a ≤ a') × (a ≡ a' → b ≤ b')
        second true e l h = let k = ltb-true a a' e in (l, λ q. absurd (omega arith))
        second false e l h = (l, λ q. last (ltb b' b) refl h)

        first : (t : Bool) → ltb a' a ≡ t → cond t true (cond (ltb a a') false (ltb b' b)) ≡ false → (a ≤ a') × (a ≡ a' → b ≤ b')
        first true e h = clash (cc)
        first false e h = second (ltb a a') refl (ltb-false a' a e) h

-- how far a codel lies toward right and down, left and up: its column and row, counted from the other side
pub reaches : (rows cols i : ℕ)
    → (reach rows cols right i ≡ i % cols) × (reach rows cols down i ≡ i / cols) × (reach rows cols left i ≡ cols - 1 - i % cols)
    × (reach rows cols up i ≡ rows - 1 - i / cols)
unfolding behind
reaches rows cols i = (refl, refl, refl, refl)

-- black and the edge block the step (rule 14.6); what else is ahead is white, or a coloured block
module _ (p : Picture) (r c dp : ℕ) where
  pub edge_blocks : ahead_of (rows_of p) (cols_of p) r c dp ≡ None → look_of p r c dp ≡ Shut
  unfolding look_of seen
  edge_blocks h = rw h

  module _ {r' c' : ℕ} (h : ahead_of (rows_of p) (cols_of p) r c dp ≡ Some (r', c')) where
    pub black_blocks : colour_at p r' c' ≡ black → look_of p r c dp ≡ Shut
    unfolding look_of seen seen_as
    black_blocks e = rw (h, e)

    pub white_ahead : colour_at p r' c' ≡ white → look_of p r c dp ≡ White r' c'
    unfolding look_of seen seen_as
    white_ahead e = rw (h, e)

    pub block_ahead : colour_at p r' c' < 18 → look_of p r c dp ≡ Coloured r' c'
    unfolding look_of seen seen_as
    block_ahead l = rw (h, ne_eqb (colour_at p r' c') black (λ e. omega arith), ne_eqb (colour_at p r' c') white (λ e. omega arith))

-- the eight attempts: cc flips, then dp turns, alternately (rule 14.7)
pub attempts : (q : PointerState)
    → map (attempt_of q) (0 ∷ 1 ∷ 2 ∷ 3 ∷ 4 ∷ 5 ∷ 6 ∷ 7 ∷ [])
    ≡ q
    ∷ flipped q
    ∷ clockwise (flipped q)
    ∷ flipped (clockwise (flipped q))
    ∷ clockwise (flipped (clockwise (flipped q)))
    ∷ flipped (clockwise (flipped (clockwise (flipped q))))
    ∷ clockwise (flipped (clockwise (flipped (clockwise (flipped q)))))
    ∷ flipped (clockwise (flipped (clockwise (flipped (clockwise (flipped q))))))
    ∷ []
unfolding attempt_of
attempts q = refl

-- clockwise: right, down, left, up, and back to right
pub turning : (c : ℕ) → map (λ d. (clockwise (record { dp = d; cc = c })).dp) (right ∷ down ∷ left ∷ up ∷ []) ≡ down ∷ left ∷ up ∷ right ∷ []
turning c = refl

-- the program ends after eight failed attempts (rule 14.7), while steps are left and no input is awaited
pub ends_after_eight : {p : Picture} {map : List ℕ} {g : Given} {room : RunRoom} {e : End} → Follows p map g room e → e.at.steps < g.terms.limit
    → e.at.store.reading.awaiting ≡ false → ShutBefore g.terms.edition p map e.at.region e.at.store.pointers 8 → e.stop ≡ Completed
ends_after_eight F l a N = F.completed.1 (l, a, all_shut N)

-- a slide goes on from a station at which it is not lost: straight on over white (rule 14.8)
pub slides_on : {p : Picture} {rule : Rule} {past t : Trail} {r c r' c' : ℕ} {s : PointerState} {o : Option Landed} → rule (station r c s ∷ past) ≡ false
    → look_of p r c s.dp ≡ White r' c' → Slide p rule past r c s t o ↔ Slide p rule (station r c s ∷ past) r' c' s t o
slides_on {p} {rule} {past} {r = r} {c = c} {r' = r'} {c' = c'} h e = (λ d. on d h e, λ d. move h e d)
  where
    on : {t : Trail} {s : PointerState} {o : Option Landed} → Slide p rule past r c s t o → rule (station r c s ∷ past) ≡ false → look_of p r c s.dp ≡ White r' c'
        → Slide p rule (station r c s ∷ past) r' c' s t o
    on (lost k) h e = clash (cc)
    on (turn k f d) h e = clash (cc)
    on (move {t = t} {r' = a} {c' = b} {s = s} {o = o} k f d) h e =
        let x : a ≡ r' = cc in
        let y : b ≡ c' = cc in
        subst (λ (z : ℕ). Slide p rule (station r c s ∷ past) z c' s t o) x (subst (λ (z : ℕ). Slide p rule (station r c s ∷ past) a z s t o) y d)
    on (land k f) h e = clash (cc)

-- at black and at the edge cc flips and dp turns clockwise, and it goes on from where it is
pub slide_turns : {p : Picture} {rule : Rule} {past t : Trail} {r c : ℕ} {s : PointerState} {o : Option Landed} → rule (station r c s ∷ past) ≡ false
    → look_of p r c s.dp ≡ Shut → Slide p rule past r c s t o ↔ Slide p rule (station r c s ∷ past) r c (clockwise (flipped s)) t o
slide_turns {p} {rule} {past} {r = r} {c = c} h e = (λ d. on d h e, λ d. turn h e d)
  where
    on : {t : Trail} {s : PointerState} {o : Option Landed} → Slide p rule past r c s t o → rule (station r c s ∷ past) ≡ false → look_of p r c s.dp ≡ Shut
        → Slide p rule (station r c s ∷ past) r c (clockwise (flipped s)) t o
    on (lost k) h e = clash (cc)
    on (turn k f d) h e = d
    on (move k f d) h e = clash (cc)
    on (land k f) h e = clash (cc)

-- a coloured block ends it there, in the present direction
pub slide_lands : {p : Picture} {rule : Rule} {past t : Trail} {r c r' c' : ℕ} {s : PointerState} {o : Option Landed} → rule (station r c s ∷ past) ≡ false
    → look_of p r c s.dp ≡ Coloured r' c' → Slide p rule past r c s t o ↔ ((t ≡ station r c s ∷ past) × (o ≡ Some (landed r' c' s)))
slide_lands {p} {rule} {past} {t} {r} {c} {r'} {c'} {s} {o} h e = (
  λ d. on d h e,
  λ q. subst (λ (x : Trail). Slide p rule past r c s x o) (sym q.0) (subst (Slide p rule past r c s (station r c s ∷ past)) (sym q.1) (land h e)),
)
  where
    on : {t : Trail} {s : PointerState} {o : Option Landed} → Slide p rule past r c s t o → rule (station r c s ∷ past) ≡ false → look_of p r c s.dp ≡ Coloured r' c'
        → (t ≡ station r c s ∷ past) × (o ≡ Some (landed r' c' s))
    on (lost k) h e = clash (cc)
    on (turn k f d) h e = clash (cc)
    on (move k f d) h e = clash (cc)
    on (land k f) h e = (refl, cc)

-- a block that is entered from white executes nothing
pub enters_silently : {e : Edition} {p : Picture} {map : List ℕ} {r a b c d target : ℕ} {q u v : PointerState} {i : ℕ} → Sound p → length map ≡ codels p → Valid q
    → Tried e p map r q (Glide a b c d u) → Opens e p map r q target v i
    → (g : Given) (size : ℕ) (m : Store) → exec g size (op_numbered i) m ≡ does m
unfolding exec
enters_silently S L k t (beside x) g size m = let same = same_way (cols_pos S) L k t x in clash (cc)
enters_silently S L k t (across x) g size m = refl
