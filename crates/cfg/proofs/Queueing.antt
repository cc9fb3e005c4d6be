-- The queue of the search, as regions are visited.
--     queue_none      nothing is marked
--     visited         one region is visited
--     queued          the regions that a way adds are visited
-- Assumes nothing.
use mathlib.Core.Path.{◌≡◌, refl, sym, ap, ◌∙◌}
use mathlib.Core.Logic.{◌≢◌, ◌⊎◌, inl, inr, ⊎_elim, by_cases}
use mathlib.Core.List.{List}
use Prim.Native.Nat.{ℕ, ◌+◌, ◌*◌, ◌<◌, ◌≤◌}
use native.Mathlib.Nat.{le_refl}
use native.Mathlib.Decide.{dec_lt}
use native.Mathlib.Omega.{arith}
use lib.ListN.{length, get_or, set, length-set}
use lib.Seq.{get_or-set_same, get_or-set_other}
use Rattle.base.specs.declared.edition.Edition.{Edition}
use Rattle.cfg.specs.Nodes.{Adds, beside, astray, over, landing, Found}
use Rattle.cfg.specs.Search.{Room, Visit, pushed, kept, Queued, InGrid, Grounds, Occurs, Waiting, Queue, Onward}
use Rattle.table.specs.Layout.{mark_of, row_cell, rows_room, mark_field}
use Rattle.cfg.specs.Search as search
use Rattle.table.proofs.Cells.{row_apart}
use Rattle.region.proofs.Cells.{stored}
use Rattle.exit.specs.declared.attempt.Way.{Way}
use Rattle.exit.specs.declared.attempt.Way.TheVariants.{Closed, Step, Astray, Glide}
use Rattle.picture.specs.Picture.{Picture, Inside, cols_of, codels}
use Rattle.picture.proofs.Codels.{index_in}
use Rattle.cfg.proofs.Bare.{bare_most, bare_set, bare_some}

pub room_after : {q : ℕ} {rows work : List ℕ} {tail : ℕ} {rows' work' : List ℕ} {tail' : ℕ} → q < length work → Room rows work tail → Visit q rows work tail rows' work' tail' → Room rows' work' tail'
room_after {q} {rows} {work} {tail} h r (pushed e) = record {
  few = simp length-set r.few;
  long = simp length-set r.long;
  free = rw (length-set work tail q) (omega (arith, r.free, bare_set (length work) rows q h (omega (arith, r.long)) e));
}
room_after h r (kept e) = r

pub length_after : {q : ℕ} {rows work : List ℕ} {tail : ℕ} {rows' work' : List ℕ} {tail' : ℕ} → Visit q rows work tail rows' work' tail' → (length rows' ≡ length rows) × (length work' ≡ length work)
length_after {q} {rows} {work} {tail} (pushed e) = (length-set rows (row_cell q mark_field) 1, length-set work tail q)
length_after (kept e) = (refl, refl)

pub onward_none : {e : Edition} {p : Picture} {map rows work : List ℕ} {tail : ℕ} → Queue e p map rows work tail → Onward e p map rows work tail rows work tail
onward_none {tail = tail} q = record {
  queue = q;
  on = le_refl tail;
  marks = λ r e. e;
  old = λ r h. refl;
  cells = λ r f h d. refl;
  rows_length = refl;
  work_length = refl;
}

pub onward_more : {e : Edition} {p : Picture} {map rows work : List ℕ} {tail : ℕ} {rows' work' : List ℕ} {tail' : ℕ} {rows'' work'' : List ℕ} {tail'' : ℕ}
    → Onward e p map rows work tail rows' work' tail' → Onward e p map rows' work' tail' rows'' work'' tail'' → Onward e p map rows work tail rows'' work'' tail''
onward_more a b = record {
  queue = b.queue;
  on = omega (arith, a.on, b.on);
  marks = λ r e. b.marks r (a.marks r e);
  old = λ q h. b.old q (omega (arith, a.on)) ∙ a.old q h;
  cells = λ r f h d. b.cells r f h d ∙ a.cells r f h d;
  rows_length = b.rows_length ∙ a.rows_length;
  work_length = b.work_length ∙ a.work_length;
}

pub queue_none : {e : Edition} (p : Picture) (map rows work : List ℕ) → length work ≤ 65536 → rows_room (length work) ≤ length rows → ((r : ℕ) → mark_of rows r ≡ 0) → Queue e p map rows work 0
queue_none p map rows work few long none = record {
  room = record { few = few; long = long; free = omega (arith, bare_most (length work) rows) };
  waits = λ q h. absurd (omega arith);
  distinct = λ a b h i. absurd (omega arith);
  bit = λ r. omega (arith, none r);
  seen = λ r e. absurd (omega (arith, none r));
}

module _ {e : Edition} {p : Picture} {map : List ℕ} {q : ℕ} {rows work : List ℕ} {tail : ℕ} (Q : Queue e p map rows work tail) (found : Found e p map q) (occurs : Occurs map q) (low : q < length work) where
  cell_in : row_cell q mark_field < length rows
  cell_in = omega (arith, Q.room.long)

  -- a region without a mark is pushed
  module _ (unmarked : mark_of rows q ≡ 0) where
    abbrev rows₁ : List ℕ
    rows₁ = set rows (row_cell q mark_field) 1

    abbrev work₁ : List ℕ
    work₁ = set work tail q

    tail_in : tail < length work
    tail_in = omega (arith, Q.room.free, bare_some (length work) rows q low cell_in unmarked)

    now_marked : mark_of rows₁ q ≡ 1
    now_marked = get_or-set_same rows (row_cell q mark_field) 1 0 cell_in

    marks : (r : ℕ) → mark_of rows r ≡ 1 → mark_of rows₁ r ≡ 1
    marks r m = ⊎_elim (λ a. a.1) (λ a. a.1 ∙ m) (stored rows (row_cell q mark_field) 1 (row_cell r mark_field) cell_in)

    back : (r : ℕ) → mark_of rows₁ r ≡ 1 → (r ≡ q) ⊎ (mark_of rows r ≡ 1)
    back r m = ⊎_elim (λ a. inl (omega (arith, a.0))) (λ a. inr (sym a.1 ∙ m)) (stored rows (row_cell q mark_field) 1 (row_cell r mark_field) cell_in)

    old : (j : ℕ) → j < tail → get_or work₁ j 0 ≡ get_or work j 0
    old j h = get_or-set_other work tail j q 0 (omega arith)

    last : get_or work₁ tail 0 ≡ q
    last = get_or-set_same work tail q 0 tail_in

    at_last : (j : ℕ) → j < tail + 1 → (j < tail → ⊥) → get_or work₁ j 0 ≡ q
    at_last j h i = let a : j ≡ tail = omega arith in rw a last

    waits : (j : ℕ) → j < tail + 1 → Waiting e p map rows₁ (get_or work₁ j 0)
    waits j h =
        by_cases (dec_lt j tail)
        (λ i.
        let w = Q.waits j i in
        rw (old j i) (record { occurs = w.occurs; marked = marks (get_or work j 0) w.marked; found = w.found }))
        (λ i. rw (at_last j h i) (record { occurs = occurs; marked = now_marked; found = found }))

    distinct : (a b : ℕ) → a < b → b < tail + 1 → get_or work₁ a 0 ≢ get_or work₁ b 0
    distinct a b h i =
        by_cases (dec_lt b tail)
        (λ k z. Q.distinct a b h k (sym (old a (omega arith)) ∙ z ∙ old b k))
        (λ k z.
        let w = Q.waits a (omega arith) in
        let y : get_or work a 0 ≡ q = sym (old a (omega arith)) ∙ z ∙ at_last b i k in
        omega (arith, w.marked, unmarked, ap (mark_of rows) y))

    queue₁ : Queue e p map rows₁ work₁ (tail + 1)
    queue₁ = record {
      room = room_after low Q.room (pushed unmarked);
      waits = waits;
      distinct = distinct;
      bit = λ r. ⊎_elim (λ a. omega (arith, a.1)) (λ a. omega (arith, a.1, Q.bit r)) (stored rows (row_cell q mark_field) 1 (row_cell r mark_field) cell_in);
      seen = λ r m.
          ⊎_elim
          (λ a. (tail, omega arith, last ∙ sym a))
          (λ a. let (j, h, s) = Q.seen r a in (j, omega arith, old j h ∙ s))
          (back r m);
    }

    onward₁ : Onward e p map rows work tail rows₁ work₁ (tail + 1)
    onward₁ = record {
      queue = queue₁;
      on = omega arith;
      marks = marks;
      old = old;
      cells = λ r f h d. get_or-set_other rows (row_cell q mark_field) (row_cell r f) 1 0 (λ z. d (row_apart r f q mark_field h (omega arith) z).1);
      rows_length = length-set rows (row_cell q mark_field) 1;
      work_length = length-set work tail q;
    }

  pub visited : {rows' work' : List ℕ} {tail' : ℕ} → Visit q rows work tail rows' work' tail' → Onward e p map rows work tail rows' work' tail' × (mark_of rows' q ≡ 1)
  visited (pushed e) = (onward₁ e, now_marked e)
  visited (kept e) = (onward_none Q, omega (arith, Q.bit q, e))

-- a closed way adds nothing
not_closed : {p : Picture} {map : List ℕ} {w : Way} {q : ℕ} → Adds p map w q → w ≡ Closed → ⊥
not_closed beside e = let z : ◌≡◌ {A = ℕ} 0 1 = cc in omega arith
not_closed astray e = let z : ◌≡◌ {A = ℕ} 0 1 = cc in omega arith
not_closed over e = let z : ◌≡◌ {A = ℕ} 0 1 = cc in omega arith
not_closed landing e = let z : ◌≡◌ {A = ℕ} 0 1 = cc in omega arith

-- the region of a codel in the grid
module _ {p : Picture} {map : List ℕ} (G : Grounds p map) (a b : ℕ) (i : Inside p a b) where
  pub at_in : a * cols_of p + b < length map
  at_in = omega (arith, index_in p a b i, G.long)

  pub region_low : get_or map (a * cols_of p + b) 0 < codels p
  region_low = G.low (a * cols_of p + b) (index_in p a b i)

  pub region_occurs : Occurs map (get_or map (a * cols_of p + b) 0)
  region_occurs = record { codel = a * cols_of p + b; inside = at_in; own = refl }

module _ {e : Edition} {p : Picture} {map : List ℕ} (G : Grounds p map) {rows work : List ℕ} {tail : ℕ} (Q : Queue e p map rows work tail) (long : length work ≡ codels p) where
  pub queued : {w : Way} {rows' work' : List ℕ} {tail' : ℕ} → InGrid p w → ((q : ℕ) → Adds p map w q → Found e p map q) → Queued map (cols_of p) rows work tail w rows' work' tail'
      → Onward e p map rows work tail rows' work' tail' × ((q : ℕ) → Adds p map w q → mark_of rows' q ≡ 1)
  queued i f search.closed = (onward_none Q, λ q d. absurd (not_closed d refl))
  queued i f (search.step {a = a} {b = b} {rows' = rows₁} v) =
      let x = visited Q (f _ beside) (region_occurs G a b i) (omega (arith, region_low G a b i)) v in
      (x.0, λ q d. step_marks a b rows₁ x.1 q d)
    where
      step_marks : (a b : ℕ) (rows' : List ℕ) → mark_of rows' (get_or map (a * cols_of p + b) 0) ≡ 1 → (q : ℕ) → Adds p map (Step a b) q → mark_of rows' q ≡ 1
      step_marks a b rows' m q beside = m
  queued i f (search.astray {a = a} {b = b} {rows' = rows₁} v) =
      let x = visited Q (f _ astray) (region_occurs G a b i) (omega (arith, region_low G a b i)) v in
      (x.0, λ q d. astray_marks a b rows₁ x.1 q d)
    where
      astray_marks : (a b : ℕ) (rows' : List ℕ) → mark_of rows' (get_or map (a * cols_of p + b) 0) ≡ 1 → (q : ℕ) → Adds p map (Astray a b) q → mark_of rows' q ≡ 1
      astray_marks a b rows' m q astray = m
  queued i f (search.glide {a = a} {b = b} {c = c} {d = d} {t = t} {work' = work₁} {rows'' = rows₂} v u) =
      let x = visited Q (f _ over) (region_occurs G a b i.0) (omega (arith, region_low G a b i.0)) v in
      let low : get_or map (c * cols_of p + d) 0 < length work₁ = omega (arith, region_low G c d i.1, x.0.work_length) in
      let y = visited x.0.queue (f _ landing) (region_occurs G c d i.1) low u in
      (onward_more x.0 y.0, λ q e. glide_marks a b c d t rows₂ (y.0.marks _ x.1) y.1 q e)
    where
      glide_marks : (a b c d : ℕ) (t : _) (rows' : List ℕ) → mark_of rows' (get_or map (a * cols_of p + b) 0) ≡ 1 → mark_of rows' (get_or map (c * cols_of p + d) 0) ≡ 1 → (q : ℕ) → Adds p map (Glide a b c d t) q → mark_of rows' q ≡ 1
      glide_marks a b c d t rows' m n q over = m
      glide_marks a b c d t rows' m n q landing = n

-- what a visit of the region of a codel asks
pub at_needs : {p : Picture} {map rows work : List ℕ} {tail : ℕ} → Grounds p map → length work ≡ codels p → Room rows work tail → (a b cols : ℕ) → Inside p a b → cols ≡ cols_of p
    → Room rows work tail × ((length map ≡ length work) × ((a * cols + b < length map) × (get_or map (a * cols + b) 0 < length work)))
at_needs G long r a b cols i e = rw e (r, (G.long ∙ sym long, (at_in G a b i, omega (arith, region_low G a b i))))
