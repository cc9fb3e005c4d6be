-- The search, as the regions are taken from the queue.
--     search_start    region 0 is queued
--     search_taken    the region at the queue's head may be taken
--     search_turn     it is taken
--     search_end      the queue is empty: the marked regions are those found
-- Assumes nothing.
use mathlib.Core.Path.{◌≡◌, refl, sym, subst, ◌∙◌}
use mathlib.Core.Logic.{◌≢◌, by_cases}
use mathlib.Core.List.{List}
use Prim.Native.Nat.{ℕ, ◌+◌, ◌<◌, ◌≤◌}
use native.Mathlib.Decide.{dec_lt, ℕ_discrete}
use native.Mathlib.Omega.{arith}
use lib.ListN.{length, get_or}
use Rattle.base.specs.declared.edition.Edition.{Edition}
use Rattle.cfg.specs.Nodes.{Adds, Found, entry, next}
use Rattle.cfg.specs.Table.{Marks, is, none}
use Rattle.cfg.specs.Search.{Visit, Queue, Onward, Settled, Several, Leaving, Taken, Ready, Searched}
use Rattle.table.specs.Layout.{mark_of, mark_field, field_at, exit_at}
use Rattle.picture.specs.Picture.{Picture, codels}
use Rattle.picture.proofs.Codels.{first_in, cols_pos}
use Rattle.flow.specs.Pointer.{state_number}
use Rattle.flow.proofs.Order.{of_number_lem, number_small}
use Rattle.flow.specs.declared.PointerState.{PointerState}
use Rattle.exit.specs.Opens.{Tried}
use Rattle.exit.proofs.Opening.{same_way}
use Rattle.cfg.proofs.Queueing.{queue_none, visited}
use Rattle.cfg.proofs.Trying.{settled_on}

-- rows₀ and exits₀ are the slices before the first region is taken
pub record Searching (e : Edition) (p : Picture) (map rows₀ exits₀ work₀ : List ℕ) (head : ℕ) (rows exits work : List ℕ) (tail : ℕ) : Type 0 where
  pub queue : Queue e p map rows work tail
  pub inside : head ≤ tail
  pub start : mark_of rows 0 ≡ 1
  pub settled : (q : ℕ) → q < head → (s : ℕ) → s < 8 → Settled e p map rows (get_or work q 0) s (exit_at exits (get_or work q 0) s)
  pub same : (r s : ℕ) → s < 8 → ((q : ℕ) → q < head → get_or work q 0 ≢ r) → exit_at exits r s ≡ exit_at exits₀ r s
  pub cells : (r f : ℕ) → f < 5 → f ≢ mark_field → field_at rows r f ≡ field_at rows₀ r f
  pub rows_length : length rows ≡ length rows₀
  pub exits_length : length exits ≡ length exits₀
  pub work_length : length work ≡ length work₀

-- what `visit` asks for region 0
pub queue_first : {e : Edition} {p : Picture} {map rows exits work : List ℕ} → Ready p map rows exits work → Queue e p map rows work 0
queue_first {p = p} {map = map} {rows = rows} {work = work} R =
    queue_none p map rows work (omega (arith, R.work_long, R.grounds.sound.few)) (omega (arith, R.work_long, R.rows_long)) R.unmarked

pub first_low : {p : Picture} {map rows exits work : List ℕ} → Ready p map rows exits work → 0 < length work
first_low R = omega (arith, R.work_long, first_in R.grounds.sound)

first_visited : {e : Edition} {p : Picture} {map rows exits work rows₀ work₀ : List ℕ} {tail : ℕ} → Ready p map rows exits work → Visit 0 rows work 0 rows₀ work₀ tail → Onward e p map rows work 0 rows₀ work₀ tail × (mark_of rows₀ 0 ≡ 1)
first_visited R v =
    visited (queue_first R) entry (record { codel = 0; inside = omega (arith, R.grounds.long, first_in R.grounds.sound); own = R.first }) (first_low R) v

pub search_start : {e : Edition} {p : Picture} {map rows exits work rows₀ work₀ : List ℕ} {tail : ℕ} → Ready p map rows exits work → Visit 0 rows work 0 rows₀ work₀ tail → Searching e p map rows₀ exits work₀ 0 rows₀ exits work₀ tail
search_start R v =
    let x = first_visited R v in
    record {
      queue = x.0.queue;
      inside = omega arith;
      start = x.1;
      settled = λ q h. absurd (omega arith);
      same = λ r s h d. refl;
      cells = λ r f h d. refl;
      rows_length = refl;
      exits_length = refl;
      work_length = refl;
    }

module _ {e : Edition} {p : Picture} {map rowsᵉ exitsᵉ workᵉ rows₀ work₀ : List ℕ} {tail₀ : ℕ} (R : Ready p map rowsᵉ exitsᵉ workᵉ) (v : Visit 0 rowsᵉ workᵉ 0 rows₀ work₀ tail₀)
    {head : ℕ} {rows exits work : List ℕ} {tail : ℕ} (S : Searching e p map rows₀ exitsᵉ work₀ head rows exits work tail) where
  low : (q : ℕ) → q < tail → get_or work q 0 < codels p
  low q h =
      let o = (S.queue.waits q h).occurs in
      omega (arith, R.grounds.low o.codel (omega (arith, o.inside, R.grounds.long)), o.own)

  pub work_long : length work ≡ codels p
  work_long = S.work_length ∙ (first_visited {e = e} R v).0.work_length ∙ R.work_long

  module _ (more : head < tail) where
    -- the cells of the region at the head are as they were
    held : (s : ℕ) → s < 8 → exit_at exits (get_or work head 0) s ≡ exit_at exitsᵉ (get_or work head 0) s
    held s h = S.same (get_or work head 0) s h (λ q i. S.queue.distinct q head i more)

    leaving : Leaving p map exits (get_or work head 0)
    leaving s h =
        let o = (S.queue.waits head more).occurs in
        rw (held s h, ← o.own) (R.leaving o.codel o.inside s h)

    pub search_taken : Taken e p map exits work (get_or work head 0)
    search_taken = record {
      grounds = R.grounds;
      found = (S.queue.waits head more).found;
      leaving = leaving;
      work_long = work_long;
      exits_long = omega (arith, low head more, S.exits_length, R.exits_long);
      few = omega (arith, low head more, R.grounds.sound.few);
    }

    module _ {rows' exits' work' : List ℕ} {tail' : ℕ} (T : Several e p map (get_or work head 0) 8 rows exits work tail rows' exits' work' tail') where
      settled : (q : ℕ) → q < head + 1 → (s : ℕ) → s < 8 → Settled e p map rows' (get_or work' q 0) s (exit_at exits' (get_or work' q 0) s)
      settled q h s i =
          by_cases (dec_lt q head)
          (λ b.
          let d = S.queue.distinct q head b more in
          let e : exit_at exits' (get_or work q 0) s ≡ exit_at exits (get_or work q 0) s = T.same (get_or work q 0) s i (λ z. absurd (d z)) in
          rw (T.onward.old q (omega arith), e) (settled_on T.onward.marks (S.settled q b s i)))
          (λ b. let a : q ≡ head = omega arith in rw (a, T.onward.old head more) (T.settled s i))

      same : (r s : ℕ) → s < 8 → ((q : ℕ) → q < head + 1 → get_or work' q 0 ≢ r) → exit_at exits' r s ≡ exit_at exitsᵉ r s
      same r s i h =
          T.same r s i (λ e. absurd (h head (omega arith) (T.onward.old head more ∙ sym e)))
          ∙ S.same r s i (λ q l e. h q (omega arith) (T.onward.old q (omega arith) ∙ e))

      pub search_turn : Searching e p map rows₀ exitsᵉ work₀ (head + 1) rows' exits' work' tail'
      search_turn = record {
        queue = T.onward.queue;
        inside = omega (arith, T.onward.on);
        start = T.onward.marks 0 S.start;
        settled = settled;
        same = same;
        cells = λ r f h d. T.onward.cells r f h d ∙ S.cells r f h d;
        rows_length = T.onward.rows_length ∙ S.rows_length;
        exits_length = T.exits_length ∙ S.exits_length;
        work_length = T.onward.work_length ∙ S.work_length;
      }

  -- the queue is empty
  module _ (empty : tail ≤ head) where
    -- a marked region's exits are settled
    done : (r : ℕ) → mark_of rows r ≡ 1 → (s : ℕ) → s < 8 → Settled e p map rows r s (exit_at exits r s)
    done r m s h =
        let (q, i, e) = S.queue.seen r m in
        rw e at (S.settled q (omega arith) s h)

    -- every found region is marked
    complete : {r : ℕ} → Found e p map r → mark_of rows r ≡ 1
    complete entry = S.start
    complete (next {r = r} {q = q} {s = s} f v t a) =
        let d = done r (complete f) (state_number s) (number_small s v) in
        let same = same_way (cols_pos R.grounds.sound) R.grounds.long v t (subst (λ (z : PointerState). Tried e p map r z d.is.way) (of_number_lem s v) d.is.tried) in
        d.marked q (subst (λ (x : _). Adds p map x q) same a)

    -- every marked region is found
    sound : (r : ℕ) → mark_of rows r ≡ 1 → Found e p map r
    sound r m =
        let (q, i, own) = S.queue.seen r m in
        subst (Found e p map) own (S.queue.waits q i).found

    marks : (r : ℕ) → Marks (Found e p map r) (mark_of rows r)
    marks r =
        by_cases (ℕ_discrete (mark_of rows r) 1)
        (λ m. subst (Marks (Found e p map r)) (sym m) (is (sound r m)))
        (λ d.
        let z : mark_of rows r ≡ 0 = omega (arith, S.queue.bit r) in
        subst (Marks (Found e p map r)) (sym z) (none (λ f. d (complete f))))

    pub search_end : Searched e p map rowsᵉ exitsᵉ rows exits
    search_end = record {
      marks = marks;
      settled = λ r f s h. (done r (complete f) s h).is;
      same = λ r s h d. S.same r s h (λ q i own. d (subst (Found e p map) own (S.queue.waits q (omega (arith, S.inside))).found));
      cells = λ r f h d. S.cells r f h d ∙ (first_visited {e = e} R v).0.cells r f h d;
    }
