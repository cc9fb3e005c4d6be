-- The regions' rows, as the codels are counted one after the other.
--     counting_none     no codel is counted
--     counting_more     one codel more; `note_needs`: what `note` requires for it
--     counting_whole    all codels are counted
-- Assumes nothing.
use mathlib.Core.Path.{◌≡◌, refl, sym, ap, subst, ◌∙◌}
use mathlib.Core.Logic.{◌≢◌, ◌⊎◌, inl, inr, ⊎_elim, by_cases}
use mathlib.Core.List.{List}
use Prim.Native.Nat.{ℕ, ◌+◌, ◌*◌, ◌/◌, ◌%◌, ◌≤◌, ◌<◌}
use native.Mathlib.Decide.{ℕ_discrete}
use native.Mathlib.Omega.{arith}
use lib.ListN.{length, get_or, set, drop, length-set}
use lib.Seq.{get_or-set_same, get_or-set_other, drop-set-lt}
use borrow.Author.Count.{below_more}
use Rattle.table.specs.Layout.{row_cell, rows_room, colour_field, size_field, row_field, column_field, mark_field, field_at, RowNumbers, row_at, blank}
use Rattle.table.proofs.Cells.{same_row}
use Rattle.region.specs.Grid.{Grid, count}
use Rattle.region.specs.Region.{IsMap}
use Rattle.region.specs.Rows.{Row, IsTable}
use Rattle.region.specs.Steps.{Noted, counted, started, begun}
use Rattle.region.proofs.MapLaws.{map_low, map_few}
use Rattle.region.proofs.TallyLaws.{tally_most, tally_some, tally_hit, tally_miss, tally_none}

-- no codel below n has the number r
abbrev Absent : List ℕ → ℕ → ℕ → Type 0
Absent m n r = (j : ℕ) → j < n → get_or m j 0 ≢ r

-- row r is that of the codels below n, without a mark, and blank where none of them is of its region
abbrev RowSoFar : Grid → ℕ → ℕ → List ℕ → List ℕ → ℕ → Type 0
RowSoFar g codel n m t r = (Row g codel n m r (row_at t r) × ((row_at t r).mark ≡ 0)) ⊎ ((row_at t r ≡ blank) × Absent m n r)

-- a row that no store touches, as a codel of another region is counted
module _ (g : Grid) (codel i : ℕ) (m t t' : List ℕ) (r : ℕ) (long : i < length m) (other : get_or m i 0 ≢ r) (same : row_at t r ≡ row_at t' r) where
  kept_row : Row g codel i m r (row_at t r) → Row g codel (i + 1) m r (row_at t r)
  kept_row a = record {
    first = a.first;
    is_first = record { inside = omega (arith, a.is_first.inside); has = a.is_first.has; none = a.is_first.none };
    colour = a.colour;
    size = a.size ∙ sym (tally_miss r i m long other);
    row = a.row;
    column = a.column;
  }

  untouched : RowSoFar g codel i m t r → RowSoFar g codel (i + 1) m t' r
  untouched =
      ⊎_elim
      (λ a. inl (subst (Row g codel (i + 1) m r) same (kept_row a.0), ap (λ (x : RowNumbers). x.mark) (sym same) ∙ a.1))
      (λ a. inr (sym same ∙ a.0, below_more (λ (j : ℕ). get_or m j 0 ≢ r) i a.1 other))

module _ (g : Grid) (codel i : ℕ) (m t : List ℕ) (q : ℕ) (here : get_or m i 0 ≡ q) (long : i < length m) (room : row_cell q mark_field < length t) where
  -- the codel is not the first of its region
  module _ (a : Row g codel i m q (row_at t q)) where
    abbrev t₁ : List ℕ
    t₁ = set t (row_cell q size_field) (field_at t q size_field + 1)

    past : (f : ℕ) → f ≢ size_field → field_at t₁ q f ≡ field_at t q f
    past f d = get_or-set_other t (row_cell q size_field) (row_cell q f) (field_at t q size_field + 1) 0 (omega arith)

    counted_row : Row g codel (i + 1) m q (row_at t₁ q)
    counted_row = record {
      first = a.first;
      is_first = record { inside = omega (arith, a.is_first.inside); has = a.is_first.has; none = a.is_first.none };
      colour = past colour_field (omega arith) ∙ a.colour;
      size =
          get_or-set_same t (row_cell q size_field) (field_at t q size_field + 1) 0 (omega arith)
          ∙ ap (λ (x : ℕ). x + 1) a.size
          ∙ sym (tally_hit q i m long here);
      row = past row_field (omega arith) ∙ a.row;
      column = past column_field (omega arith) ∙ a.column;
    }

    not_zero : field_at t q size_field ≢ 0
    not_zero e = omega (arith, a.size, tally_some q i m a.first a.is_first.inside (omega (arith, a.is_first.inside)) a.is_first.has)

  -- the codel is the first of its region
  begun_row : row_at t q ≡ blank → Absent m i q → Row g codel (i + 1) m q (row_at (begun g codel i q t) q) × ((row_at (begun g codel i q t) q).mark ≡ 0)
  unfolding begun
  begun_row b none =
      let row = i / g.cols * codel in
      let col = i % g.cols * codel in
      let t₁ = set t (row_cell q colour_field) (g.colour i) in
      let t₂ = set t₁ (row_cell q size_field) 1 in
      let t₃ = set t₂ (row_cell q row_field) row in
      let l₁ : length t₁ ≡ length t = length-set t (row_cell q colour_field) (g.colour i) in
      let l₂ : length t₂ ≡ length t₁ = length-set t₁ (row_cell q size_field) 1 in
      let l₃ : length t₃ ≡ length t₂ = length-set t₂ (row_cell q row_field) row in (
        record {
          first = i;
          is_first = record { inside = omega arith; has = here; none = none };
          colour =
              get_or-set_other t₃ (row_cell q column_field) (row_cell q colour_field) col 0 (omega arith)
              ∙ get_or-set_other t₂ (row_cell q row_field) (row_cell q colour_field) row 0 (omega arith)
              ∙ get_or-set_other t₁ (row_cell q size_field) (row_cell q colour_field) 1 0 (omega arith)
              ∙ get_or-set_same t (row_cell q colour_field) (g.colour i) 0 (omega arith);
          size =
              get_or-set_other t₃ (row_cell q column_field) (row_cell q size_field) col 0 (omega arith)
              ∙ get_or-set_other t₂ (row_cell q row_field) (row_cell q size_field) row 0 (omega arith)
              ∙ get_or-set_same t₁ (row_cell q size_field) 1 0 (omega arith)
              ∙ omega (arith, tally_none q i m none, tally_hit q i m long here);
          row =
              get_or-set_other t₃ (row_cell q column_field) (row_cell q row_field) col 0 (omega arith)
              ∙ get_or-set_same t₂ (row_cell q row_field) row 0 (omega arith);
          column = get_or-set_same t₃ (row_cell q column_field) col 0 (omega arith);
        },
        get_or-set_other t₃ (row_cell q column_field) (row_cell q mark_field) col 0 (omega arith)
            ∙ get_or-set_other t₂ (row_cell q row_field) (row_cell q mark_field) row 0 (omega arith)
            ∙ get_or-set_other t₁ (row_cell q size_field) (row_cell q mark_field) 1 0 (omega arith)
            ∙ get_or-set_other t (row_cell q colour_field) (row_cell q mark_field) (g.colour i) 0 (omega arith)
            ∙ ap (λ (x : RowNumbers). x.mark) b,
      )

-- another row is not touched
other_counted : (t : List ℕ) (q v r : ℕ) → r ≢ q → row_at t r ≡ row_at (set t (row_cell q size_field) v) r
other_counted t q v r d = same_row (past colour_field (omega arith)) (past size_field (omega arith)) (past row_field (omega arith)) (past column_field (omega arith)) (past mark_field (omega arith))
  where
    past : (f : ℕ) → f < 5 → field_at t r f ≡ field_at (set t (row_cell q size_field) v) r f
    past f l = sym (get_or-set_other t (row_cell q size_field) (row_cell r f) v 0 (omega arith))

other_begun : (g : Grid) (codel i q : ℕ) (t : List ℕ) (r : ℕ) → r ≢ q → row_at t r ≡ row_at (begun g codel i q t) r
unfolding begun
other_begun g codel i q t r d = same_row (past colour_field (omega arith)) (past size_field (omega arith)) (past row_field (omega arith)) (past column_field (omega arith)) (past mark_field (omega arith))
  where
    past : (f : ℕ) → f < 5 → field_at t r f ≡ field_at (begun g codel i q t) r f
    past f l =
        let a : row_cell r f ≢ row_cell q colour_field = omega arith in
        let b : row_cell r f ≢ row_cell q size_field = omega arith in
        let c : row_cell r f ≢ row_cell q row_field = omega arith in
        let e : row_cell r f ≢ row_cell q column_field = omega arith in
        simp get_or-set_other

row_more : (g : Grid) (codel i : ℕ) (m t : List ℕ) {t' : List ℕ} → i < length m → get_or m i 0 < count g
    → rows_room (count g) ≤ length t
    → ((r : ℕ) → r < count g → RowSoFar g codel i m t r) → Noted g codel i (get_or m i 0) t t' → (r : ℕ) → r < count g
    → RowSoFar g codel (i + 1) m t' r
row_more g codel i m t long inside room a (counted some) r h =
    by_cases (ℕ_discrete r (get_or m i 0))
    (λ e.
    rw e
    (⊎_elim
    (λ b. inl (counted_row g codel i m t (get_or m i 0) refl long (omega arith) b.0, past g codel i m t (get_or m i 0) refl long (omega arith) b.0 mark_field (omega arith) ∙ b.1))
    (λ b. absurd (some (ap (λ (x : RowNumbers). x.size) b.0)))
    (a (get_or m i 0) inside)))
    (λ d.
    let size = row_cell (get_or m i 0) size_field in
    untouched g codel i m t (set t size (get_or t size 0 + 1)) r long (λ e. d (sym e)) (other_counted t (get_or m i 0) (get_or t size 0 + 1) r d) (a r h))
row_more g codel i m t long inside room a (started none) r h =
    by_cases (ℕ_discrete r (get_or m i 0))
    (λ e.
    rw e
    (⊎_elim
    (λ b. absurd (not_zero g codel i m t (get_or m i 0) refl long (omega arith) b.0 none))
    (λ b. inl (begun_row g codel i m t (get_or m i 0) refl long (omega arith) b.0 b.1))
    (a (get_or m i 0) inside)))
    (λ d. untouched g codel i m t (begun g codel i (get_or m i 0) t) r long (λ e. d (sym e)) (other_begun g codel i (get_or m i 0) t r d) (a r h))

-- a codel's count stays within the rows
noted_rest : {g : Grid} {codel i q : ℕ} {t t' : List ℕ} (n : ℕ) → q < n → Noted g codel i q t t'
    → drop (rows_room n) t' ≡ drop (rows_room n) t
unfolding begun
noted_rest {q = q} {t = t} n h (counted some) = drop-set-lt (rows_room n) t (row_cell q size_field) (get_or t (row_cell q size_field) 0 + 1) (omega arith)
noted_rest {q = q} n h (started none) =
    let a : row_cell q colour_field < rows_room n = omega arith in
    let b : row_cell q size_field < rows_room n = omega arith in
    let c : row_cell q row_field < rows_room n = omega arith in
    let d : row_cell q column_field < rows_room n = omega arith in
    simp drop-set-lt

-- the size's cell as the code finds it
pub counted_at : {g : Grid} {codel i r : ℕ} (t : List ℕ) {at : ℕ} → at ≡ row_cell r size_field → get_or t at 0 ≢ 0
    → Noted g codel i r t (set t at (get_or t at 0 + 1))
counted_at t e some = rw e (counted (rw e at some))

pub started_at : {g : Grid} {codel i r : ℕ} (t : List ℕ) {t' : List ℕ} {at : ℕ} → at ≡ row_cell r size_field → get_or t at 0 ≡ 0
    → t' ≡ begun g codel i r t → Noted g codel i r t t'
started_at t e none new = rw new (started (rw e at none))

-- the codels below i are counted in t; t₀ is the table before the first was
pub record Counting (g : Grid) (codel i : ℕ) (m t₀ t : List ℕ) : Type 0 where
  pub most : i ≤ count g
  pub rows : (r : ℕ) → r < count g → RowSoFar g codel i m t r
  pub same_length : length t ≡ length t₀
  pub rest : drop (rows_room (count g)) t ≡ drop (rows_room (count g)) t₀

pub counting_none : {g : Grid} {codel : ℕ} {m t : List ℕ} → ((j : ℕ) → j < rows_room (count g) → get_or t j 0 ≡ 0)
    → Counting g codel 0 m t t
counting_none zeros = record {
  most = omega arith;
  rows = λ r h.
      inr (
        same_row
            (zeros (row_cell r colour_field) (omega arith))
            (zeros (row_cell r size_field) (omega arith))
            (zeros (row_cell r row_field) (omega arith))
            (zeros (row_cell r column_field) (omega arith))
            (zeros (row_cell r mark_field) (omega arith)),
        λ j k. absurd (omega arith),
      );
  same_length = refl;
  rest = refl;
}

module _ {g : Grid} {codel n : ℕ} {m t₀ : List ℕ} (a : IsMap g m n) (room : rows_room (count g) ≤ length t₀) {i : ℕ} {t : List ℕ} (x : Counting g codel i m t₀ t) (h : i < count g) where
  small : get_or m i 0 < count g
  small = omega (arith, map_low g m n a i h)

  -- a region's size so far is at most the codels counted
  size_most : get_or t (row_cell (get_or m i 0) size_field) 0 ≤ i
  size_most = ⊎_elim (λ b. omega (arith, b.0.size, tally_most (get_or m i 0) i m)) (λ b. omega (arith, ap (λ (y : RowNumbers). y.size) b.0)) (x.rows (get_or m i 0) small)

  pub note_needs : (i < length m) × ((get_or m i 0 < count g) × ((rows_room (count g) ≤ length t) × (get_or t (row_cell (get_or m i 0) size_field) 0 ≤ i)))
  note_needs = (omega (arith, a.long), (small, (omega (arith, x.same_length), size_most)))

  pub counting_more : {t' : List ℕ} → Noted g codel i (get_or m i 0) t t' → length t' ≡ length t → Counting g codel (i + 1) m t₀ t'
  counting_more noted kept = record {
    most = omega arith;
    rows = row_more g codel i m t (omega (arith, a.long)) small (omega (arith, x.same_length)) x.rows noted;
    same_length = kept ∙ x.same_length;
    rest = noted_rest (count g) small noted ∙ x.rest;
  }

pub counting_whole : {g : Grid} {codel n i : ℕ} {m t₀ t : List ℕ} → IsMap g m n → Counting g codel i m t₀ t → count g ≤ i
    → IsTable g codel n m t
counting_whole {g} {codel} {n} {i} {m} {t = t} a x all =
    let e : i ≡ count g = omega (arith, x.most) in
    let b = rw e at x.rows in
    record {
      rows = λ r h. (begun_so_far r h (b r (omega (arith, map_few g m n a)))).0;
      unmarked = λ r h. (begun_so_far r h (b r (omega (arith, map_few g m n a)))).1;
      rest = λ r h k.
          ⊎_elim (λ y. absurd (omega (arith, a.below y.0.first y.0.is_first.inside, y.0.is_first.has))) (λ y. y.0) (b r k);
    }
  where
    -- a region of the map has a codel
    begun_so_far : (r : ℕ) → r < n → RowSoFar g codel (count g) m t r → Row g codel (count g) m r (row_at t r) × ((row_at t r).mark ≡ 0)
    begun_so_far r h = let (j, k, e) = a.each r h in ⊎_elim (λ y. y) (λ y. absurd (y.1 j k e))
