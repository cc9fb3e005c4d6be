-- The table of a picture in edition 2 beside that in edition 1 (rules 16.5, 16.8).
--     same_table      map and count of regions are the same, and so are the rows but for their marks
--     found_both      what is found in edition 1 is found in edition 2, so that a node of 1 is one of 2
--     marks_grow      and its mark stays
--     new_found       what is found in edition 2 alone is found from where a long slide lands, one of a region that is found in
--                     edition 1; a slide is long that lands after its eighth turn
--     exits_beside    an exit of edition 2 is that of edition 1; or there it is 0, and here it is that of a lost slide, the one to
--                     where a long slide lands, or that of an open attempt of a node of edition 2 alone
--     same_exit       so where edition 1 has an exit, edition 2 has the same one
--     lost_exits      edition 2 has 9,437,185 at the lost slides of nodes, and nowhere else
--     lost_shut       where it has that, edition 1 has 0
-- Assumes nothing.
use mathlib.Core.Path.{◌≡◌, refl, subst}
use mathlib.Core.List.{List}
use mathlib.Core.Logic.{◌↔◌, ◌⊎◌, inl, inr}
use Prim.Native.Nat.{ℕ, ◌/◌, ◌%◌, ◌<◌, ◌≤◌}
use native.Mathlib.Omega.{arith}
use lib.ListN.{length}
use Rattle.std.specs.Prelude.{Some}
use Rattle.base.specs.declared.edition.Edition.{Edition}
use Rattle.base.specs.declared.edition.Edition.TheVariants.{Rust, Page}
use Rattle.colour.specs.Instruction as instruction
use Rattle.flow.specs.Pointer.{Valid, of_number, state_number}
use Rattle.flow.proofs.Order.{valid_number}
use Rattle.flow.specs.declared.PointerState.{PointerState}
use Rattle.picture.specs.Picture.{Picture, cols_of, codels, Sound}
use Rattle.picture.proofs.Codels.{cols_pos, inside_of}
use Rattle.region.specs.Grid.{grid_of}
use Rattle.region.specs.Region.{IsMap}
use Rattle.table.specs.Layout.{mark_of, exit_at, row_at}
use Rattle.table.specs.ExitNumber.{exit_number, largest_exit, lost_slide}
use Rattle.exit.specs.declared.attempt.Way.{Way}
use Rattle.exit.specs.declared.attempt.Way.TheVariants.{Step, Astray, Glide}
use Rattle.exit.specs.Trail.{most_turns, turns_of, comes_back}
use Rattle.exit.specs.Slide.{landed, Ends}
use Rattle.exit.specs.Attempt.{Attempt}
use Rattle.exit.specs.Opens.{region_at, Tried, Opens, beside, across, Stuck}
use Rattle.exit.proofs.Opening.{same_codel, rust_unstuck}
use Rattle.exit.proofs.Editions.{Ways, same, long, attempt_total, ways_beside, opens_both}
use Rattle.cfg.specs.Nodes as nodes
use Rattle.cfg.specs.Nodes.{Adds, astray, landing, Found, entry, next, Node}
use Rattle.cfg.specs.Table.{Marks, is, none, Exit, no_node, shut, leads, stuck, Builds}
use Rattle.cfg.proofs.Leads.{open_fits, exit_fits}
use Rattle.cfg.proofs.TableLaws.{one_exit, same_map, over_map, with_mark, row_but_mark}

-- region r's attempt in the state q is a long slide: lost at its eighth turn in edition 1, it lands after it in edition 2
pub record Long (p : Picture) (map : List ℕ) (r : ℕ) (q : PointerState) : Type 0 where
  pub row : ℕ
  pub col : ℕ
  pub to_row : ℕ
  pub to-col : ℕ
  pub state : PointerState
  pub lost : Tried Rust p map r q (Astray row col)
  pub lands : Tried Page p map r q (Glide row col to_row to-col state)
  pub slide : Ends p comes_back row col q (Some (landed to_row to-col state))
  pub turned : most_turns ≤ turns_of slide.trail

-- the region where such a slide of a region that is found in edition 1 lands, and what edition 2 finds from there on
pub data Through (p : Picture) (map : List ℕ) : ℕ → Type 0 where
  lands : {r : ℕ} {q : PointerState} → Found Rust p map r → Valid q → (x : Long p map r q) → Through p map (region_at p map x.to_row x.to-col)
  goes_on : {r q : ℕ} {s : PointerState} {w : Way} → Through p map r → Valid s → Tried Page p map r s w → Adds p map w q → Through p map q

-- an exit of region r in the state q, in edition 1 and in edition 2
pub data Beside (p : Picture) (map : List ℕ) (r : ℕ) (q : PointerState) : ℕ → ℕ → Type 0 where
  as_before : {x : ℕ} → Beside p map r q x x
  lost-slide : Stuck p map r q Page → Beside p map r q 0 lost_slide
  long_slide : (x : Long p map r q) → Beside p map r q 0 (exit_number (region_at p map x.to_row x.to-col) (state_number x.state) instruction.none)
  new_node : {target i : ℕ} {u : PointerState} → (Node Rust p map r → ⊥) → Node Page p map r → Opens Page p map r q target u i
      → Beside p map r q 0 (exit_number target (state_number u) i)

-- such a slide, from the attempts of the two editions
abbrev long_of : {p : Picture} {map : List ℕ} {r x y a b : ℕ} {q u : PointerState} → Tried Rust p map r q (Astray x y) → Tried Page p map r q (Glide x y a b u)
    → (d : Ends p comes_back x y q (Some (landed a b u))) → most_turns ≤ turns_of d.trail → Long p map r q
long_of {x = x} {y = y} {a = a} {b = b} {u = u} t t' d h =
    record { row = x; col = y; to_row = a; to-col = b; state = u; lost = t; lands = t'; slide = d; turned = h }

module _ {p : Picture} {map : List ℕ} (S : Sound p) (l : length map ≡ codels p) where
  -- the attempt in the other edition
  tried_in : (e : Edition) {e' : Edition} {r : ℕ} {q : PointerState} {w : Way} → Valid q → Tried e' p map r q w → (w' : Way) × Tried e p map r q w'
  tried_in e v t =
      let (w, a) = attempt_total (inside_of S t.codel (omega (arith, t.leaves.codel, l))) v e in
      (w, record { codel = t.codel; leaves = t.leaves; way = a })

  ways_of : {r : ℕ} {q : PointerState} {w w' : Way} → Valid q → Tried Rust p map r q w → Tried Page p map r q w' → Ways p q w w'
  ways_of {q = q} {w' = w'} v t u =
      ways_beside (inside_of S t.codel (omega (arith, t.leaves.codel, l))) v t.way
      (subst (λ (i : ℕ). Attempt Page p (i / cols_of p) (i % cols_of p) q w') (same_codel (cols_pos S) l v u t) u.way)

  -- what edition 1's way adds, edition 2's adds
  adds_both : {s : PointerState} {w w' : Way} {r : ℕ} → Ways p s w w' → Adds p map w r → Adds p map w' r
  adds_both same a = a
  adds_both (long d d' h) astray = nodes.over

  pub found_both : {r : ℕ} → Found Rust p map r → Found Page p map r
  found_both entry = entry
  found_both (next f v t a) =
      let (w, u) = tried_in Page v t in
      next (found_both f) v u (adds_both (ways_of v t u) a)

  pub node_both : {r : ℕ} → Node Rust p map r → Node Page p map r
  node_both N = record { found = found_both N.found; coloured = N.coloured }

  pub new_found : {r : ℕ} → Found Page p map r → Found Rust p map r ⊎ Through p map r
  new_found entry = inl entry
  new_found (next {r = r} {q = q} {s = s} f v t a) = by_source (new_found f)
    where
      by_ways : {w w' : Way} {z : ℕ} → Found Rust p map r → Tried Rust p map r s w → Tried Page p map r s w' → Ways p s w w' → Adds p map w' z → Found Rust p map z ⊎ Through p map z
      by_ways g u t same a = inl (next g v u a)
      by_ways g u t (long d d' h) nodes.over = inl (next g v u astray)
      by_ways g u t (long d d' h) landing = inr (lands g v (long_of u t d' h))

      by_source : Found Rust p map r ⊎ Through p map r → Found Rust p map q ⊎ Through p map q
      by_source (inl g) =
          let (w, u) = tried_in Rust v t in
          by_ways g u t (ways_of v u t) a
      by_source (inr x) = inr (goes_on x v t a)

  -- an attempt that is open in edition 2 alone is a long slide
  opens_long : {r target : ℕ} {q u : PointerState} {i : ℕ} → Valid q → ((u' : PointerState) (t j : ℕ) → Opens Rust p map r q t u' j → ⊥)
      → Opens Page p map r q target u i → Beside p map r q 0 (exit_number target (state_number u) i)
  opens_long {r = r} {q = q} v never (beside {a = a} {b = b} t) =
      let (w, u) = tried_in Rust v t in
      by_ways u (ways_of v u t)
    where
      by_ways : {w : Way} {x : ℕ} → Tried Rust p map r q w → Ways p q w (Step a b) → Beside p map r q 0 x
      by_ways u same = absurd (never _ _ _ (beside u))
  opens_long {r = r} {q = q} v never (across {a = a} {b = b} {c = c} {d = d} {u = z} t) =
      let (w, u) = tried_in Rust v t in
      by_ways u (ways_of v u t)
    where
      by_ways : {w : Way} → Tried Rust p map r q w → Ways p q w (Glide a b c d z) → Beside p map r q 0 (exit_number (region_at p map c d) (state_number z) instruction.none)
      by_ways u same = absurd (never _ _ _ (across u))
      by_ways u (long x y h) = long_slide (long_of u t y h)

  -- the exit of edition 2 beside that of edition 1
  exit_beside : {r x y : ℕ} {q : PointerState} → Valid q → Exit Rust p map r q x → Exit Page p map r q y → Beside p map r q x y
  exit_beside v (no_node a) (no_node b) = as_before
  exit_beside v (no_node a) (shut b t) = as_before
  exit_beside v (no_node a) (leads b o) = new_node a b o
  exit_beside v (no_node a) (stuck b t) = lost-slide t
  exit_beside v (shut a s) (no_node b) = as_before
  exit_beside v (shut a s) (shut b t) = as_before
  exit_beside v (shut a s) (leads b o) = opens_long v (λ u t i x. s.never t u i x) o
  exit_beside v (shut a s) (stuck b t) = lost-slide t
  exit_beside {r} {q = q} v (leads {target = t} {i = i} {u = u} a o) y =
      subst (Beside p map r q _) (one_exit (cols_pos S) l v (leads (node_both a) (opens_both o)) y) as_before
  exit_beside v (stuck a s) y = absurd (rust_unstuck refl s)

  -- the number of a lost slide is the exit of nothing else
  is_lost : {n r x : ℕ} {q : PointerState} → IsMap (grid_of p) map n → Valid q → Exit Page p map r q x → x ≡ lost_slide → Node Page p map r × Stuck p map r q Page
  is_lost M v (no_node a) e = absurd (omega arith)
  is_lost M v (shut a s) e = absurd (omega arith)
  is_lost M v (leads a o) e = absurd (omega (arith, (open_fits S M l a.found v o).0))
  is_lost M v (stuck a s) e = (a, s)

-- two marks, of what holds in edition 1 and so in edition 2
grown : {A B : Type 0} {x y : ℕ} → (A → B) → Marks A x → Marks B y → x ≡ 1 → y ≡ 1
grown f (is a) (is b) e = refl
grown f (is a) (none b) e = absurd (b (f a))
grown f (none a) m e = absurd (omega arith)

module _ {p : Picture} {map : List ℕ} {r : ℕ} {q : PointerState} where
  kept : {x y : ℕ} → Beside p map r q x y → (x ≡ 0 → ⊥) → y ≡ x
  kept as_before d = refl
  kept (lost-slide s) d = absurd (d refl)
  kept (long_slide t) d = absurd (d refl)
  kept (new_node a b o) d = absurd (d refl)

  closed : {x y : ℕ} → Beside p map r q x y → x ≤ largest_exit → y ≡ lost_slide → x ≡ 0
  closed as_before h e = absurd (omega arith)
  closed (lost-slide s) h e = refl
  closed (long_slide t) h e = refl
  closed (new_node a b o) h e = refl

module _ {p : Picture} (S : Sound p) {map rows exits work map' rows' exits' work' : List ℕ} {n n' : ℕ}
    (one : Builds Rust p map rows exits work n) (two : Builds Page p map' rows' exits' work' n') where
  -- edition 2's table over edition 1's map
  over : Builds Page p map rows' exits' work' n
  over = over_map (same_map one two) two

  pub same_table : (map ≡ map') × (n ≡ n') × ((r : ℕ) → with_mark (mark_of rows' r) (row_at rows r) ≡ row_at rows' r)
  same_table = let same = same_map one two in (same.0, same.1, row_but_mark one over)

  module _ (r : ℕ) (h : r < n) where
    pub marks_grow : mark_of rows r ≡ 1 → mark_of rows' r ≡ 1
    marks_grow = grown (node_both S one.map_long) (one.node r h) (over.node r h)

    module _ (s : ℕ) (k : s < 8) where
      pub exits_beside : Beside p map r (of_number s) (exit_at exits r s) (exit_at exits' r s)
      exits_beside = exit_beside S one.map_long (valid_number s k) (one.exit r s h k) (over.exit r s h k)

      pub same_exit : (exit_at exits r s ≡ 0 → ⊥) → exit_at exits' r s ≡ exit_at exits r s
      same_exit = kept exits_beside

      pub lost_exits : (exit_at exits' r s ≡ lost_slide) ↔ (Node Page p map r × Stuck p map r (of_number s) Page)
      lost_exits = (
        is_lost S one.map_long one.regions (valid_number s k) (over.exit r s h k),
        λ found. one_exit (cols_pos S) one.map_long (valid_number s k) (over.exit r s h k) (stuck found.0 found.1),
      )

      pub lost_shut : exit_at exits' r s ≡ lost_slide → exit_at exits r s ≡ 0
      lost_shut = closed exits_beside (exit_fits S one r s h k).0
