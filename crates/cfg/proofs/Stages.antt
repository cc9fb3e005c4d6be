-- The stages of building, put together.
--     ready      what the search begins with, after the map, the rows and the codels to leave by
--     builds     the whole table
-- Assumes nothing.
use mathlib.Core.Path.{◌≡◌, refl, sym, subst, ◌∙◌}
use mathlib.Core.Logic.{◌≢◌, by_cases}
use mathlib.Core.Bool.{Bool, true, false, cond, not, true≢false}
use mathlib.Core.List.{List, [], ◌∷◌}
use Prim.Native.Nat.{ℕ, zero, suc, ◌<◌, ◌≤◌}
use native.Mathlib.Nat.{le_of_suc-le-suc, not-suc-le-zero}
use native.Mathlib.Decide.{dec_lt, ℕ_discrete}
use native.Mathlib.Omega.{arith}
use borrow.Author.Tests.{eqb-true, eqb-false}
use lib.Dec.{eqb}
use lib.ListN.{length, get_or, replicate}
use Rattle.base.specs.declared.edition.Edition.{Edition}
use Rattle.flow.specs.Pointer.{of_number}
use Rattle.cfg.specs.Nodes.{Adds, beside, astray, over, landing, Found, entry, next, Node}
use Rattle.cfg.specs.Table.{Marks, is, none, Exit, no_node, Builds}
use Rattle.cfg.specs.Search.{InGrid, Grounds, Occurs, Begun, Ready, Searched, is_node, Kept, stays, goes, Cleared}
use Rattle.table.specs.Layout.{mark_of, row_cell, colour_field, size_field, row_field, column_field, mark_field, exit_cell, rows_room, exits_room, field_at, exit_at, row_at, blank}
use Rattle.table.proofs.Cells.{row_past, same_row, blank_fields}
use Rattle.picture.specs.Picture.{Picture, rows_of, cols_of, codels, codel_colour}
use Rattle.exit.specs.declared.attempt.Way.{Way}
use Rattle.colour.specs.Palette.{white}
use Rattle.exit.specs.LeaveTable.{Mapped, AllKept}
use Rattle.region.proofs.MapLaws.{map_low}
use Rattle.region.specs.Rows.{Row}
use Rattle.picture.proofs.Codels.{cols_pos, first_in, inside_of}
use Rattle.cfg.proofs.NodeLaws.{joined_colour, number_exit}
use Rattle.region.specs.Grid.{grid_of}
use Rattle.cfg.proofs.Queueing.{region_occurs}
use Rattle.cfg.proofs.Trying.{placed}

-- past a list's end
pub beyond : (l : List ℕ) (k : ℕ) → length l ≤ k → get_or l k 0 ≡ 0
beyond [] k h = refl
beyond (x ∷ l) zero h = absurd (not-suc-le-zero h)
beyond (x ∷ l) (suc k) h = beyond l k (le_of_suc-le-suc h)

pub zero_at : (n k : ℕ) → get_or {A = ℕ} (replicate n 0) k 0 ≡ 0
zero_at zero k = refl
zero_at (suc n) zero = refl
zero_at (suc n) (suc k) = zero_at n k

module _ {p : Picture} {map : List ℕ} {n : ℕ} {rows : List ℕ} (B : Begun p map n rows) where
  pub grounds : Grounds p map
  grounds = record {
    sound = B.sound;
    long = B.map_long;
    low = λ j h. omega (arith, map_low (grid_of p) map n B.regions j h);
  }

  pub mapped : (cells : ℕ) → cells ≡ exits_room (codels p) → Mapped map cells (rows_of p) (cols_of p)
  mapped cells e = record {
    grid = B.map_long;
    cols_pos = cols_pos B.sound;
    some = omega (arith, B.map_long, first_in B.sound);
    few = omega (arith, B.map_long, B.sound.few);
    numbered = λ k h. omega (arith, map_low (grid_of p) map n B.regions k (omega (arith, B.map_long)), B.map_long);
    room = omega (arith, B.map_long);
  }

  -- the rows past the regions
  rest_at : (r f : ℕ) → n ≤ r → f < 5 → field_at rows r f ≡ 0
  rest_at r f h k =
      by_cases (dec_lt r (codels p))
      (λ i. blank_fields rows r (B.table.rest r h i) f k)
      (λ i. let past = row_past (codels p) r f k (omega arith) in beyond rows (row_cell r f) (omega (arith, B.rows_long)))

  unmarked : (r : ℕ) → mark_of rows r ≡ 0
  unmarked r = by_cases (dec_lt r n) (λ h. B.table.unmarked r h) (λ h. rest_at r mark_field (omega arith) (omega arith))

  pub ready : {exits work : List ℕ} → AllKept map (replicate (exits_room (codels p)) 0) exits (rows_of p) (cols_of p) 8 → length exits ≡ exits_room (codels p) → length work ≡ codels p → Ready p map rows exits work
  ready {exits} {work} K el wl = record {
    grounds = grounds;
    rows_long = B.rows_long;
    exits_long = el;
    work_long = wl;
    first = omega (arith, map_low (grid_of p) map n B.regions 0 (first_in B.sound));
    unmarked = unmarked;
    leaving = λ j h s i. K.leaves s i j h;
  }

  -- a found region has a codel, and so a number below n
  found_occurs : {e : Edition} {r : ℕ} → Found e p map r → Occurs map r
  found_occurs entry = record {
    codel = 0;
    inside = omega (arith, B.map_long, first_in B.sound);
    own = omega (arith, map_low (grid_of p) map n B.regions 0 (first_in B.sound));
  }
  found_occurs (next {q = q} {w = w} f h t a) =
      added w q (placed (inside_of B.sound t.codel (omega (arith, t.leaves.codel, B.map_long))) h t.way) a
    where
      added : (w : Way) (q : ℕ) → InGrid p w → Adds p map w q → Occurs map q
      added w q i (beside {a = a} {b = b}) = region_occurs grounds a b i
      added w q i (astray {a = a} {b = b}) = region_occurs grounds a b i
      added w q i (over {a = a} {b = b}) = region_occurs grounds a b i.0
      added w q i (landing {c = c} {d = d}) = region_occurs grounds c d i.1

  found_low : {e : Edition} {r : ℕ} → Found e p map r → r < n
  found_low f =
      let o = found_occurs f in
      omega (arith, B.regions.below o.codel (omega (arith, o.inside, B.map_long)), o.own)

  module _ {e : Edition} {exits rows' exits' rows'' exits'' : List ℕ} (K : AllKept map (replicate (exits_room (codels p)) 0) exits (rows_of p) (cols_of p) 8)
      (S : Searched e p map rows exits rows' exits') (C : Cleared n rows' exits' rows'' exits'') where
    -- the fields of a row stay, but for its mark
    field : (r f : ℕ) → f < 5 → f ≢ mark_field → field_at rows'' r f ≡ field_at rows r f
    field r f h d = C.rows_same r f h (λ _. d) ∙ S.cells r f h d

    -- the colour cell is the colour of each codel of the region
    colour_cell : (r : ℕ) → r < n → (i : ℕ) → i < codels p → get_or map i 0 ≡ r → field_at rows' r colour_field ≡ codel_colour p i
    colour_cell r h i l e =
        let t = B.table.rows r h in
        let c : field_at rows' r colour_field ≡ field_at rows r colour_field = S.cells r colour_field (omega arith) (λ e. omega arith) in
        c ∙ t.colour ∙ joined_colour (B.regions.apart t.first i t.is_first.inside l (t.is_first.has ∙ sym e))

    -- a region that is kept is a node, and one that is not kept is none
    marked_is : {r x : ℕ} → Marks (Found e p map r) x → x ≢ 0 → Found e p map r × (x ≡ 1)
    marked_is (is f) d = (f, refl)
    marked_is (none f) d = absurd (d refl)

    unmarked_not : {r x : ℕ} → Marks (Found e p map r) x → x ≡ 0 → Found e p map r → ⊥
    unmarked_not (is f) e g = omega arith
    unmarked_not (none f) e g = f g

    tests : (r : ℕ) → is_node rows' r ≡ true → (field_at rows' r colour_field ≢ white) × (mark_of rows' r ≢ 0)
    tests r e = first (eqb (field_at rows' r colour_field) 19) refl e
      where
        second : (b : Bool) → eqb (mark_of rows' r) 0 ≡ b → not b ≡ true → mark_of rows' r ≢ 0
        second true h k = absurd (true≢false (sym k))
        second false h k = eqb-false _ _ h

        first : (b : Bool) → eqb (field_at rows' r colour_field) 19 ≡ b → cond b false (not (eqb (mark_of rows' r) 0)) ≡ true → (field_at rows' r colour_field ≢ white) × (mark_of rows' r ≢ 0)
        first true h k = absurd (true≢false (sym k))
        first false h k = (eqb-false _ _ h, second (eqb (mark_of rows' r) 0) refl k)

    is-node : (r : ℕ) → r < n → is_node rows' r ≡ true → Node e p map r × (mark_of rows' r ≡ 1)
    is-node r h e =
        let t = tests r e in
        let f = marked_is (S.marks r) t.1 in
        (record { found = f.0; coloured = λ w. t.0 (colour_cell r h w.codel w.inside w.own ∙ w.colour) }, f.1)

    never_node : (r : ℕ) → r < n → is_node rows' r ≡ false → Node e p map r → ⊥
    never_node r h e N = first (eqb (field_at rows' r colour_field) 19) refl e
      where
        second : (b : Bool) → eqb (mark_of rows' r) 0 ≡ b → not b ≡ false → ⊥
        second true m k = unmarked_not (S.marks r) (eqb-true _ _ m) N.found
        second false m k = true≢false k

        first : (b : Bool) → eqb (field_at rows' r colour_field) 19 ≡ b → cond b false (not (eqb (mark_of rows' r) 0)) ≡ false → ⊥
        first true m k =
            let t = B.table.rows r h in
            N.coloured (record {
              codel = t.first;
              inside = t.is_first.inside;
              own = t.is_first.has;
              colour = sym (colour_cell r h t.first t.is_first.inside t.is_first.has) ∙ eqb-true _ _ m;
            })
        first false m k = second (eqb (mark_of rows' r) 0) refl k

    node_mark : (r : ℕ) → r < n → Kept r rows' exits' rows'' exits'' → Marks (Node e p map r) (mark_of rows'' r)
    node_mark r h (stays t m x) = let d = is-node r h t in subst (Marks (Node e p map r)) (sym (m ∙ d.1)) (is d.0)
    node_mark r h (goes t m x) = subst (Marks (Node e p map r)) (sym m) (none (never_node r h t))

    exit-at : (r s : ℕ) → r < n → s < 8 → Kept r rows' exits' rows'' exits'' → Exit e p map r (of_number s) (exit_at exits'' r s)
    exit-at r s h i (stays t m x) =
        let d = is-node r h t in
        subst (Exit e p map r (of_number s)) (sym (x s i)) (number_exit (cols_pos B.sound) B.map_long i d.0 (S.settled r d.0.found s i))
    exit-at r s h i (goes t m x) = subst (Exit e p map r (of_number s)) (sym (x s i)) (no_node (never_node r h t))

    row-at : (r : ℕ) → r < n → Row (grid_of p) p.codel (codels p) map r (row_at rows'' r)
    row-at r h =
        let t = B.table.rows r h in
        record {
          first = t.first;
          is_first = t.is_first;
          colour = field r colour_field (omega arith) (λ e. omega arith) ∙ t.colour;
          size = field r size_field (omega arith) (λ e. omega arith) ∙ t.size;
          row = field r row_field (omega arith) (λ e. omega arith) ∙ t.row;
          column = field r column_field (omega arith) (λ e. omega arith) ∙ t.column;
        }

    not_found : {r : ℕ} → n ≤ r → Found e p map r → ⊥
    not_found h f = omega (arith, found_low f)

    -- past the regions
    module _ (r : ℕ) (h : n ≤ r) where
      field_zero : (f : ℕ) → f < 5 → f ≢ mark_field → field_at rows'' r f ≡ 0
      field_zero f k d = field r f k d ∙ rest_at r f h k

      mark_zero : mark_of rows'' r ≡ 0
      mark_zero =
          C.rows_same r mark_field (omega arith) (λ l. absurd (omega arith))
          ∙ by_cases (ℕ_discrete (mark_of rows' r) 0) (λ e. e) (λ d. absurd (not_found h (marked_is (S.marks r) d).0))

      row_zero : row_at rows'' r ≡ blank
      row_zero =
          same_row
          (field_zero colour_field (omega arith) (λ e. omega arith))
          (field_zero size_field (omega arith) (λ e. omega arith))
          (field_zero row_field (omega arith) (λ e. omega arith))
          (field_zero column_field (omega arith) (λ e. omega arith))
          mark_zero

      exit_zero : (s : ℕ) → s < 8 → exit_at exits'' r s ≡ 0
      exit_zero s k =
          C.exits_same r s k h
          ∙ S.same r s k (not_found h)
          ∙ K.others r s k (λ i j l e. omega (arith, B.regions.below j (omega (arith, B.map_long)), e))
          ∙ zero_at (exits_room (codels p)) (exit_cell r s)

    pub builds : {work : List ℕ} → length rows'' ≡ rows_room (codels p) → length exits'' ≡ exits_room (codels p) → work ≡ replicate (codels p) 0 → Builds e p map rows'' exits'' work n
    builds rl el w = record {
      map_long = B.map_long;
      rows_long = rl;
      exits_long = el;
      regions = B.regions;
      row = row-at;
      exit = λ r s h i. exit-at r s h i (C.each r h);
      node = λ r h. node_mark r h (C.each r h);
      rows_rest = row_zero;
      exits_rest = λ r s h k. exit_zero r h s k;
      work_zero = w;
    }
