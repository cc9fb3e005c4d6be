-- Black is a node as region 0 alone, and its exits have no instruction (rule 4.6).
--     black_node       a node with a black codel is region 0
--     black_silent     an open attempt of a black region has no instruction
--     black_exit       the number of its exit says none, where it is not that of a lost slide in edition 2
-- Assumes nothing.
use mathlib.Core.Path.{◌≡◌, refl, sym, ◌∙◌}
use mathlib.Core.List.{List}
use mathlib.Core.Logic.{◌⊎◌, inl, inr}
use Prim.Native.Nat.{ℕ, ◌<◌}
use native.Mathlib.Omega.{arith}
use lib.ListN.{length, get_or}
use Rattle.std.specs.Prelude.{Option}
use Rattle.base.specs.declared.edition.Edition.{Edition}
use Rattle.flow.specs.Pointer.{Valid, state_number}
use Rattle.flow.proofs.Order.{number_small}
use Rattle.flow.specs.declared.PointerState.{PointerState}
use Rattle.colour.specs.Decode.{decode_of}
use Rattle.colour.specs.Instruction.{none}
use Rattle.colour.specs.Palette.{black}
use Rattle.cfg.specs.Nodes as nodes
use Rattle.cfg.specs.Nodes.{Adds, astray, over, Found, entry, next, Node}
use Rattle.cfg.specs.Table.{Exit, no_node, leads, stuck}
use Rattle.cfg.specs.Table as table
use Rattle.exit.specs.declared.attempt.Way.{Way}
use Rattle.exit.specs.declared.attempt.Way.TheVariants.{Step, Astray, Glide}
use Rattle.exit.specs.declared.slide.Sight.TheVariants.{White}
use Rattle.exit.specs.Attempt.{Attempt, shut, step, glide, lost}
use Rattle.exit.specs.Opens.{region_at, Opens, beside, across, Stuck}
use Rattle.exit.proofs.SlideLaws.{Sighted, at_white, look_sighted, white_inside, coloured_inside, coloured_colour}
use Rattle.exit.proofs.SlideEnds.{landing}
use Rattle.picture.specs.Picture.{Picture, Inside, codels, colour_at, index_of, codel_colour, Sound}
use Rattle.picture.proofs.Codels.{index_in, row_of, col_of, inside_of}
use Rattle.region.specs.Grid.{grid_of}
use Rattle.region.specs.Region.{IsMap}
use Rattle.region.proofs.MapLaws.{map_few}
use Rattle.table.specs.ExitNumber.{instruction_of}
use Rattle.table.proofs.Exits.{instruction_back}
use Rattle.cfg.proofs.NodeLaws.{joined_colour}
use Rattle.cfg.proofs.Leads.{opens_leads}

-- a codel that is seen white is not black
seen_white : {p : Picture} {x : Option (ℕ × ℕ)} {a b : ℕ} → Sighted p x (White a b) → colour_at p a b ≡ black → ⊥
seen_white (at_white h) e = omega arith

-- q is the region of a codel that is not black
record Bright (p : Picture) (map : List ℕ) (q : ℕ) : Type 0 where
  codel : ℕ
  inside : codel < codels p
  own : get_or map codel 0 ≡ q
  not_black : codel_colour p codel ≡ black → ⊥

bright_at : {p : Picture} {map : List ℕ} (a b : ℕ) → Inside p a b → (colour_at p a b ≡ black → ⊥) → Bright p map (region_at p map a b)
bright_at {p} {map} a b i d = record {
  codel = index_of p a b;
  inside = index_in p a b i;
  own = refl;
  not_black = rw (row_of p a b i, col_of p a b i) d;
}

step_bright : {p : Picture} {map : List ℕ} {a b q : ℕ} → Inside p a b → (colour_at p a b ≡ black → ⊥) → Adds p map (Step a b) q → Bright p map q
step_bright {a = a} {b = b} i d nodes.beside = bright_at a b i d

astray_bright : {p : Picture} {map : List ℕ} {a b q : ℕ} → Inside p a b → (colour_at p a b ≡ black → ⊥) → Adds p map (Astray a b) q → Bright p map q
astray_bright {a = a} {b = b} i d astray = bright_at a b i d

glide_bright : {p : Picture} {map : List ℕ} {a b c d q : ℕ} {t : PointerState} → Inside p a b → (colour_at p a b ≡ black → ⊥) → Inside p c d → (colour_at p c d ≡ black → ⊥)
    → Adds p map (Glide a b c d t) q → Bright p map q
glide_bright {a = a} {b = b} i k j l over = bright_at a b i k
glide_bright {c = c} {d = d} i k j l nodes.landing = bright_at c d j l

-- what a way adds is seen white or coloured, since black is shut (rule 4.3)
bright : {e : Edition} {p : Picture} {map : List ℕ} {r c q : ℕ} {s : PointerState} {w : Way} → Inside p r c → Valid s → Attempt e p r c s w → Adds p map w q → Bright p map q
bright i v (shut e) x = elim x [ ]
bright {p = p} {r = r} {c = c} {s = s} i v (step e) x = step_bright (coloured_inside p r c s.dp i e) (coloured_colour p r c s.dp e).0 x
bright {p = p} {r = r} {c = c} {s = s} i v (lost e d) x = astray_bright (white_inside p r c s.dp i e) (seen_white (look_sighted p r c s.dp e)) x
bright {p = p} {r = r} {c = c} {s = s} i v (glide e d) x =
    let l = landing d (white_inside p r c s.dp i e) v in
    glide_bright (white_inside p r c s.dp i e) (seen_white (look_sighted p r c s.dp e)) l.place l.not_black x

module _ {e : Edition} {p : Picture} {map : List ℕ} {n : ℕ} (S : Sound p) (M : IsMap (grid_of p) map n) (long : length map ≡ codels p) where
  -- every found region but region 0 was added by a way
  black_found : {r : ℕ} → Found e p map r → (j : ℕ) → j < codels p → get_or map j 0 ≡ r → codel_colour p j ≡ black → r ≡ 0
  black_found entry j h own dark = refl
  black_found (next f v t a) j h own dark =
      let x = bright (inside_of S t.codel (omega (arith, t.leaves.codel, long))) v t.way a in
      absurd (x.not_black (joined_colour (M.apart x.codel j x.inside h (x.own ∙ sym own)) ∙ dark))

  pub black_node : {r : ℕ} → Node e p map r → (j : ℕ) → j < codels p → get_or map j 0 ≡ r → codel_colour p j ≡ black → r ≡ 0
  black_node N = black_found N.found

  -- black is in neither cycle of colours; a slide that lands gives no instruction of itself
  pub black_silent : {r target : ℕ} {q u : PointerState} {i : ℕ} → Opens e p map r q target u i → (j : ℕ) → j < codels p → get_or map j 0 ≡ r → codel_colour p j ≡ black → i ≡ none
  unfolding decode_of
  black_silent (beside t) j h own dark =
      let inside : t.codel < codels p = omega (arith, t.leaves.codel, long) in
      rw (joined_colour (M.apart t.codel j inside h (t.leaves.own ∙ sym own)) ∙ dark)
  black_silent (across t) j h own dark = refl

  pub black_exit : {r x : ℕ} {q : PointerState} → Valid q → Exit e p map r q x → (j : ℕ) → j < codels p → get_or map j 0 ≡ r → codel_colour p j ≡ black → (instruction_of x ≡ none) ⊎ Stuck p map r q e
  black_exit v (no_node a) j h own dark = inl refl
  black_exit v (table.shut a s) j h own dark = inl refl
  black_exit v (stuck a s) j h own dark = inr s
  black_exit v (leads {target = target} {i = i} {u = u} a o) j h own dark =
      let l = opens_leads S M long a.found v o in
      let low : target < 65536 = omega (arith, l.low, map_few (grid_of p) map n M, S.few) in
      inl (instruction_back target (state_number u) i low (number_small u l.valid) ∙ black_silent o j h own dark)
