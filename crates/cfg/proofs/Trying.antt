-- One attempt of a region, and the eight of them.
--     placed          the codels of a way are in the grid
--     tries           one state is settled
--     several_none, several_more
-- Assumes nothing.
use mathlib.Core.Path.{◌≡◌, refl, ap, ◌∙◌}
use mathlib.Core.Logic.{◌≢◌, by_cases}
use mathlib.Core.List.{List}
use Prim.Native.Nat.{ℕ, ◌+◌, ◌*◌, ◌/◌, ◌%◌, ◌<◌}
use native.Mathlib.Decide.{dec_lt}
use native.Mathlib.Omega.{arith}
use lib.ListN.{length, get_or, set, length-set}
use lib.Seq.{get_or-set_same, get_or-set_other}
use Rattle.base.specs.declared.edition.Edition.{Edition}
use Rattle.flow.specs.Pointer.{Valid, state_number, of_number}
use Rattle.flow.proofs.Order.{valid_number}
use Rattle.flow.specs.declared.PointerState.{PointerState}
use Rattle.cfg.specs.Nodes.{Found, next}
use Rattle.cfg.specs.Search.{way_number, Queued, InGrid, Grounds, Queue, Settled, Tries, Several}
use Rattle.table.specs.Layout.{mark_of, exit_cell, exit_at}
use Rattle.table.proofs.Cells.{exit_apart}
use Rattle.exit.specs.declared.attempt.Way.{Way}
use Rattle.exit.specs.declared.attempt.Way.TheVariants.{Step, Glide}
use Rattle.colour.specs.Decode.{decode_of}
use Rattle.picture.specs.Picture.{Picture, Inside, rows_of, cols_of, colour_at, codels, codel_colour}
use Rattle.exit.specs.Attempt.{Attempt, shut, step, glide, lost}
use Rattle.exit.proofs.SlideLaws.{white_inside, coloured_inside}
use Rattle.exit.proofs.SlideEnds.{landing}
use Rattle.exit.specs.Leaving.{LeavesBy}
use Rattle.exit.specs.Opens.{Tried}
use Rattle.picture.proofs.Codels.{inside_of}
use Rattle.table.specs.ExitNumber.{exit_number}
use Rattle.cfg.proofs.Queueing.{queued, onward_none, onward_more}

pub placed : {e : Edition} {p : Picture} {r c : ℕ} {s : PointerState} {w : Way} → Inside p r c → Valid s → Attempt e p r c s w → InGrid p w
placed i v (shut e) = omega arith
placed {p = p} {r = r} {c = c} {s = s} i v (step {r' = a} {c' = b} e) = coloured_inside p r c s.dp i e
placed {p = p} {r = r} {c = c} {s = s} i v (glide {r' = a} {c' = b} e d) =
    let j = white_inside p r c s.dp i e in
    let l = landing d j v in
    (j, l.place, l.valid)
placed {p = p} {r = r} {c = c} {s = s} i v (lost {r' = a} {c' = b} e d) = white_inside p r c s.dp i e

pub tries : {e : Edition} {p : Picture} {map : List ℕ} {r s i v : ℕ} {w : Way} {rows exits work : List ℕ} {tail : ℕ} {rows' work' : List ℕ} {tail' : ℕ}
    → Grounds p map → Found e p map r → Queue e p map rows work tail → length work ≡ codels p → s < 8
    → LeavesBy map (rows_of p) (cols_of p) (of_number s) r i → Attempt e p (i / cols_of p) (i % cols_of p) (of_number s) w → InGrid p w
    → v ≡ way_number e p map (codel_colour p i) s w → Queued map (cols_of p) rows work tail w rows' work' tail'
    → Tries e p map r s rows exits work tail rows' (set exits (exit_cell r s) v) work' tail'
tries {e} {p} {map} {r} {s} {i} {v} {w} G f Q long h l a inside n d =
    let t : Tried e p map r (of_number s) w = record { codel = i; leaves = l; way = a } in
    let x = queued G Q long inside (λ q z. next f (valid_number s h) t z) d in
    record {
      onward = x.0;
      value = v;
      stored = refl;
      settled = record { is = record { way = w; tried = t; number = n }; marked = x.1 };
    }

pub several_none : {e : Edition} {p : Picture} {map : List ℕ} (r : ℕ) {rows : List ℕ} (exits : List ℕ) {work : List ℕ} {tail : ℕ} → Queue e p map rows work tail → Several e p map r 0 rows exits work tail rows exits work tail
several_none r exits Q = record { onward = onward_none Q; settled = λ s h. absurd (omega arith); same = λ q s h d. refl; exits_length = refl }

pub settled_on : {e : Edition} {p : Picture} {map rows rows' : List ℕ} {r s x : ℕ} → ((q : ℕ) → mark_of rows q ≡ 1 → mark_of rows' q ≡ 1) → Settled e p map rows r s x → Settled e p map rows' r s x
settled_on m t = record { is = t.is; marked = λ q d. m q (t.marked q d) }

module _ {e : Edition} {p : Picture} {map : List ℕ} {r k : ℕ} {rows exits work : List ℕ} {tail : ℕ} {rows' exits' work' : List ℕ} {tail' : ℕ} {rows'' exits'' work'' : List ℕ} {tail'' : ℕ}
    (a : Several e p map r k rows exits work tail rows' exits' work' tail') (t : Tries e p map r k rows' exits' work' tail' rows'' exits'' work'' tail'') (few : k < 8) (inside : exit_cell r k < length exits') where
  apart : (q s : ℕ) → s < 8 → (q ≡ r → s ≢ k) → exit_at exits'' q s ≡ exit_at exits' q s
  apart q s h d = rw t.stored (get_or-set_other exits' (exit_cell r k) (exit_cell q s) t.value 0 (λ e. let x = exit_apart q s r k h few e in d x.0 x.1))

  here : exit_at exits'' r k ≡ t.value
  here = rw t.stored (get_or-set_same exits' (exit_cell r k) t.value 0 inside)

  settled : (s : ℕ) → s < k + 1 → Settled e p map rows'' r s (exit_at exits'' r s)
  settled s h =
      by_cases (dec_lt s k)
      (λ i. rw (apart r s (omega arith) (λ _ e. omega arith)) (settled_on t.onward.marks (a.settled s i)))
      (λ i. let at : s ≡ k = omega arith in rw (at, here) t.settled)

  pub several_more : Several e p map r (k + 1) rows exits work tail rows'' exits'' work'' tail''
  several_more = record {
    onward = onward_more a.onward t.onward;
    settled = settled;
    same = λ q s h d. apart q s h (λ e i. omega (arith, d e)) ∙ a.same q s h (λ e. omega (arith, d e));
    exits_length = ap length t.stored ∙ length-set exits' (exit_cell r k) t.value ∙ a.exits_length;
  }

-- the exit number of a way, from what the code reads
module _ (e : Edition) (p : Picture) (map : List ℕ) (from s x cols : ℕ) (ec : cols ≡ cols_of p) where
  pub step_number : (a b i to : ℕ) → x ≡ exit_number (get_or map (a * cols + b) 0) s i → i ≡ decode_of from to → to ≡ colour_at p a b → x ≡ way_number e p map from s (Step a b)
  unfolding way_number
  step_number a b i to n d t = rw (n, ec, d, t)

  pub glide_number : (a b c d n : ℕ) (t : PointerState) → x ≡ exit_number (get_or map (c * cols + d) 0) n 0 → n ≡ state_number t → x ≡ way_number e p map from s (Glide a b c d t)
  unfolding way_number
  glide_number a b c d n t h k = rw (h, ec, k)

-- what the code reads of the codel to leave by: j is its index, i and cols are what was read
module _ {p : Picture} {map : List ℕ} {r j : ℕ} (s : ℕ) (G : Grounds p map) (l : LeavesBy map (rows_of p) (cols_of p) (of_number s) r j) {i cols : ℕ} (ei : i ≡ j) (ec : cols ≡ cols_of p) where
  pub leave_inside : Inside p (i / cols) (i % cols)
  leave_inside = rw (ei, ec) (inside_of G.sound j (omega (arith, l.codel, G.long)))

  -- the codels of the way that the attempt comes to
  pub way_inside : {e : Edition} {q : PointerState} {w : Way} → s < 8 → q ≡ of_number s → Attempt e p (i / cols) (i % cols) q w → InGrid p w
  way_inside h eq a = placed leave_inside (rw eq (valid_number s h)) a

  pub tries_read : {e : Edition} {v from : ℕ} {q : PointerState} {w : Way} {rows exits work : List ℕ} {tail : ℕ} {rows' work' : List ℕ} {tail' : ℕ}
      → Found e p map r → Queue e p map rows work tail → length work ≡ codels p → s < 8
      → q ≡ of_number s → Attempt e p (i / cols) (i % cols) q w
      → from ≡ colour_at p (i / cols) (i % cols) → v ≡ way_number e p map from s w → Queued map (cols_of p) rows work tail w rows' work' tail'
      → Tries e p map r s rows exits work tail rows' (set exits (exit_cell r s) v) work' tail'
  tries_read {e} {v} {from} {q} {w} f Q long h eq a ef n d =
      let a' : Attempt e p (j / cols_of p) (j % cols_of p) (of_number s) w = rw (ei, ec, eq) at a in
      let ef' : from ≡ codel_colour p j = rw (ei, ec) at ef in
      let n' : v ≡ way_number e p map (codel_colour p j) s w = rw ef' at n in
      tries G f Q long h l a' (way_inside h eq a) n' d
