-- Demand 3, from what building and running promise: a run of what was built from a picture is not refused, and it follows
-- the picture.
--     picture_follows    of a call of `run`
--     picture_history    the exits that it takes, read as moves, are those of the picture, and so are the regions that it enters
--     picture_moves      and those that `run_history` keeps are the moves, as far as there are cells
--     picture_visits     and what `run_visits` counts is how often the moves enter each region
--     picture_resumed    of a call of `run` that came to MaxSteps, and a call of `resume` to a larger limit
-- Assumes nothing.
use mathlib.Core.Path.{◌≡◌, refl, sym, ap, ◌∙◌}
use mathlib.Core.Bool.{true, false, true≢false}
use mathlib.Core.List.{List, [], ◌∷◌}
use Prim.Native.Nat.{ℕ, ◌-◌, ◌<◌, ◌≤◌}
use native.Mathlib.Omega.{arith}
use borrow.Author.Tests.{le-ltb, lt-leb, eq-eqb, ne_eqb}
use lib.ListN.{length, get_or, take, drop, length-take}
use lib.Seq.{get_or-take}
use Rattle.base.specs.declared.edition.Edition.{Edition}
use Rattle.base.specs.Counting.{count}
use Rattle.base.specs.Edition.{unknown_edition, edition_of}
use Rattle.base.specs.Numbers.{numbers}
use Rattle.base.proofs.Refusals.{passed}
use Rattle.machine.specs.declared.Stop.TheVariants.{MaxSteps}
use Rattle.machine.specs.Machine.{under_limit, Asks, given_of}
use Rattle.machine.specs.Place.{start, End}
use Rattle.machine.specs.Held.{Slices, room_of}
use Rattle.machine.proofs.Only.{AsLong}
use Rattle.piet.specs.Follows.{entered_by, Follows}
use Rattle.piet.specs.Decoded.{onto}
use Rattle.colour.specs.Palette.{white}
use Rattle.picture.specs.Picture.{Picture, codels, Sound}
use Rattle.picture.proofs.Codels.{first_in}
use Rattle.table.specs.Layout.{row_cell, size_field, mark_field, field_at, exit_cell, exit_at, rows_room, exits_room, mark_of}
use Rattle.table.specs.ExitNumber.{target_of, largest_in}
use Rattle.table.proofs.Cells.{row_in, exit_in}
use Rattle.region.specs.Grid.{grid_of}
use Rattle.region.proofs.MapLaws.{map_few}
use Rattle.cfg.specs.Table.{Marks, is, none, Builds}
use Rattle.std.specs.Prelude.{Result, Ok, Err}
use Rattle.base.specs.declared.refusal.Refusal.{Refusal}
use Rattle.cfg.specs.Build as building
use Rattle.cfg.specs.Build.{Written, refusals, picture_refusals, refusal}
use Rattle.cfg.proofs.Refusing.{known, accepted}
use Rattle.cfg.proofs.Leads.{exit_fits}
use Rattle.interpreter.specs.declared.Ended.{Ended}
use Rattle.interpreter.specs.Table.{wrong_mark, wrong_exit, wrong_exits, valid_of}
use Rattle.interpreter.specs.Outcome.{Outcome, ended_of, slices_of, job_of, end_of}
use Rattle.interpreter.specs.History.{History, regions_of}
use Rattle.interpreter.specs.Recorded.{Recorded}
use Rattle.interpreter.specs.Resume.{Started, Resumed}
use Rattle.interpreter.proofs.ValidLaws.{any_nowhere}
use Rattle.interpreter.proofs.Answering.{answer_right, finishes, recorded}
use Rattle.interpreter.proofs.Settled.{settled}
use Rattle.interpreter.proofs.Observing.{taken_front}
use Rattle.interpreter.proofs.Resuming.{resume_run}
use Rattle.visits.specs.declared.Visited.{Visited}
use Rattle.visits.specs.Visits.{unvisited_of}
use Rattle.visits.specs.Outcome as visiting
use Rattle.visits.proofs.Answering.{finished}
use Rattle.visits.proofs.Only.{not_refused}
use Rattle.piet.proofs.Bridge.{Tabled}
use Rattle.piet.proofs.Following.{onto_length, onto_entered, onto_first, history_walks, stands_first, follows}
use Rattle.piet.proofs.FollowsOnly.{walk_only}

mark_small : {A : Type 0} {x : ℕ} → Marks A x → x ≤ 1
mark_small (is a) = omega arith
mark_small (none a) = omega arith

module _ {e : Edition} {p : Picture} {map rows exits work map' rows' exits' work' : List ℕ} {n : ℕ} (S : Sound p)
    (R : rows_room (codels p) ≤ length rows') (X : exits_room (codels p) ≤ length exits')
    (W : Written e p map rows exits work map' rows' exits' work' n) where
  abbrev B : Builds e p (take (codels p) map') (take (rows_room (codels p)) rows') (take (exits_room (codels p)) exits') (take (codels p) work') n
  B = W.builds

  few : n ≤ codels p
  few = map_few (grid_of p) (take (codels p) map') n B.regions

  field-at : (r f : ℕ) → r < n → f < 5 → field_at (take (rows_room (codels p)) rows') r f ≡ field_at rows' r f
  field-at r f h k = get_or-take (rows_room (codels p)) rows' (row_cell r f) 0 (row_in (codels p) r f k (omega (arith, few)))

  exit-at : (r s : ℕ) → r < n → s < 8 → exit_at (take (exits_room (codels p)) exits') r s ≡ exit_at exits' r s
  exit-at r s h k = get_or-take (exits_room (codels p)) exits' (exit_cell r s) 0 (exit_in (codels p) r s k (omega (arith, few)))

  pub tabled : Tabled e p (take (codels p) map') rows' exits' n
  tabled = record {
    map_long = B.map_long;
    regions = B.regions;
    size = λ r h. sym (field-at r size_field h (omega arith)) ∙ (B.row r h).size;
    exit = λ r s h k. rw (exit-at r s h k) at (B.exit r s h k);
  }

  mark_right : (r : ℕ) → r < n → wrong_mark rows' r ≡ false
  mark_right r h = le-ltb 1 (mark_of rows' r) (rw (field-at r mark_field h (omega arith)) at (mark_small (B.node r h)))

  exit_right : (r s : ℕ) → r < n → s < 8 → wrong_exit (largest_in e) n (exit_at exits' r s) ≡ false
  exit_right r s h k =
      let z = exit-at r s h k in
      let l = exit_fits S B r s h k in
      rw (le-ltb (largest_in e) (exit_at exits' r s) (rw z at l.0), lt-leb n (target_of (exit_at exits' r s)) (rw z at l.1))

  -- the run does not refuse the table
  pub valid : valid_of e n rows' exits' ≡ true
  valid =
      let some : n ≡ 0 → ⊥ = λ z. omega (arith, B.regions.below 0 (first_in S)) in
      rw (
        ne_eqb n 0 some,
        le-ltb 65536 n (omega (arith, few, S.few)),
        le-ltb (length rows') (rows_room n) (omega (arith, few)),
        le-ltb (length exits') (exits_room n) (omega (arith, few)),
        any_nowhere (wrong_mark rows') n mark_right,
        any_nowhere (wrong_exits (largest_in e) n exits') n (λ r h. any_nowhere (λ s. wrong_exit (largest_in e) n (exit_at exits' r s)) 8 (λ s k. exit_right r s h k)),
      )

-- what is built is not refused, so it does not begin white
coloured : (number : ℕ) (p : Picture) (m r e w : ℕ) (v : List ℕ) → numbers 0 v ≡ refusal number p m r e w → get_or p.colours 0 0 ≡ white → ⊥
unfolding refusal refusals picture_refusals
coloured number p m r e w v h k =
    let u = passed _ 14 _ v _ _ h in
    let a = passed _ 0 _ v _ _ u.1 in
    let b = passed _ 5 _ v _ _ a.1 in
    let c = passed _ 6 _ v _ _ b.1 in
    let d = passed _ 1 _ v _ _ c.1 in
    let f = passed _ 7 _ v _ _ d.1 in
    let g = passed _ 8 _ v _ _ f.1 in
    true≢false (sym (eq-eqb _ _ k) ∙ g.0)

-- what is known of a table of n regions that was built from a picture: a run of its edition does not refuse it, and what
-- makes such a run follow the picture
pub record Followed (number : ℕ) (p : Picture) (map rows exits : List ℕ) (n : ℕ) : Type 0 where
  pub named : unknown_edition number ≡ false
  pub valid : valid_of (edition_of number) n rows exits ≡ true
  pub sound : Sound p
  pub begins : get_or p.colours 0 0 ≡ white → ⊥
  pub tabled : Tabled (edition_of number) p (take (codels p) map) rows exits n

pub runs : {number : ℕ} {p : Picture} {map rows exits work map' rows' exits' work' : List ℕ} {n : ℕ}
    → building.Outcome number p map rows exits work (Ok n) map' rows' exits' work' → Followed number p map' rows' exits' n
runs {number} {p} {map} {rows} {exits} {work} {rows' = rows'} {exits' = exits'} (building.done e W) =
    let s = accepted number p (length map) (length rows) (length exits) (length work) (0 ∷ 0 ∷ []) (sym e) in
    let R = long (rows_room (codels p)) rows' W.builds.rows_long in
    let X = long (exits_room (codels p)) exits' W.builds.exits_long in
    record {
      named = known number p (length map) (length rows) (length exits) (length work) (0 ∷ 0 ∷ []) (sym e);
      valid = valid s.sound R X W;
      sound = s.sound;
      begins = coloured number p (length map) (length rows) (length exits) (length work) (0 ∷ 0 ∷ []) (sym e);
      tabled = tabled s.sound R X W;
    }
  where
    long : (k : ℕ) (x : List ℕ) → length (take k x) ≡ k → k ≤ length x
    long k x h = omega (arith, length-take k x)

module _ {p : Picture} {map rows exits work map' rows' exits' work' : List ℕ} {n : ℕ} (a : Asks)
    (o : building.Outcome a.edition p map rows exits work (Ok n) map' rows' exits' work') where
  abbrev T : Followed a.edition p map' rows' exits' n
  T = runs o

  -- Demand 3, from the two contracts as they stand: `build` answered n, and `run` was called on what it wrote, in the same
  -- edition
  pub picture_follows : (l : Slices) {r : Result Ended Refusal} {l' : Slices} → Outcome n rows' exits' a l r l'
      → (e : End) × (r ≡ Ok (ended_of e)) × Follows p (take (codels p) map') (given_of a) (room_of l) e × (e.at.region < n)
      × (l' ≡ slices_of l e.at.store)
  picture_follows l q =
      let f = follows T.sound (given_of a) T.tabled (room_of l) T.begins in
      let d = finishes n rows' exits' a l q (answer_right n rows' exits' a l T.named T.valid) in
      (end_of rows' exits' (given_of a) l, d.0, f.0, f.1, d.1)

  -- The history of that run is the walk of the picture: its exits, read as moves, are the moves, and the regions that it enters are
  -- those that the moves enter
  pub picture_history : (l : Slices) (h : History (job_of rows' exits' (given_of a) l) a.limit start (end_of rows' exits' (given_of a) l))
      (F : Follows p (take (codels p) map') (given_of a) (room_of l) (end_of rows' exits' (given_of a) l))
      → (F.history ≡ onto 0 h.exits []) × (entered_by F.history ≡ regions_of start h.exits)
  picture_history l h F =
      let g = given_of a in
      let s = stands_first T.sound g T.tabled (room_of l) T.begins in
      let w = (history_walks T.sound g T.tabled (room_of l) s h.passes).walk in
      let same = walk_only T.sound T.tabled.map_long g (room_of l) F.walk w (omega (arith, F.counted, h.counted, onto_length 0 h.exits [])) in
      (same.0, ap entered_by same.0 ∙ onto_entered 0 h.exits [])

  -- What a run that is recorded keeps: the exits in the cells, read as moves, are the moves, but for the latest where there are fewer cells
  pub picture_moves : (l : Slices) (taken : List ℕ) {r : Result Ended Refusal} {l' : Slices} {taken' : List ℕ} → Recorded n rows' exits' a l taken r l' taken'
      → (e : End) × (r ≡ Ok (ended_of e)) × (F : Follows p (take (codels p) map') (given_of a) (room_of l) e)
      × (onto 0 (take e.at.steps taken') [] ≡ drop (e.at.steps - length taken) F.history)
  picture_moves l taken {taken' = taken'} q =
      let f = follows T.sound (given_of a) T.tabled (room_of l) T.begins in
      let done = answer_right n rows' exits' a l T.named T.valid in
      let d = finishes n rows' exits' a l q.run done in
      let e = end_of rows' exits' (given_of a) l in
      let ws = q.history.exits in
      let steps : e.at.steps ≡ length ws = omega (arith, q.history.counted) in
      let held = recorded n rows' exits' a l taken q done in
      let front : take e.at.steps taken' ≡ take (length taken) ws = rw (steps, held) (taken_front taken ws) in (
        e,
        d.0,
        f.0,
        ap (λ (x : List ℕ). onto 0 x []) front
            ∙ onto_first 0 ws (length taken) []
            ∙ rw (steps, (picture_history l q.history f.0).0) refl,
      )

  -- The same of a run whose visits were counted: they are how often the moves enter each region
  pub picture_visits : (l : visiting.Lends) {v : Visited} {l' : visiting.Lends}
      → visiting.Outcome n rows' exits' a l (Ok v) l'
      → (x : End) × (v.ended ≡ ended_of x) × (F : Follows p (take (codels p) map') (given_of a) (room_of l.run) x)
      × (l' ≡ visiting.done_with n rows' exits' a l (entered_by F.history))
      × (v.unvisited ≡ length (unvisited_of n rows' (λ r. count r (entered_by F.history))))
  picture_visits l {v} q =
      let f = follows T.sound (given_of a) T.tabled (room_of l.run) T.begins in
      let same = sym (picture_history l.run q.history f.0).1 in
      let d = finished n rows' exits' a l q (not_refused n rows' exits' a l q) in
      let listed : v.unvisited ≡ length (unvisited_of n rows' (λ r. count r (regions_of start q.history.exits))) = ap unvisited_in d.0 in (
        end_of rows' exits' (given_of a) l.run,
        q.ends v refl,
        f.0,
        d.1 ∙ ap (visiting.done_with n rows' exits' a l) same,
        listed ∙ ap (λ (entered : List ℕ). length (unvisited_of n rows' (λ r. count r entered))) same,
      )
    where
      unvisited_in : Result Visited Refusal → ℕ
      unvisited_in (Ok w) = w.unvisited
      unvisited_in (Err r) = 0

  -- Demand 3 of a run that was stopped and resumed: `run` to the limit x came to MaxSteps (what it promises then is
  -- `Started`, by `Resumable`), and `resume` was called to the limit y.
  pub picture_resumed : (x y : ℕ) (l l₁ l₂ : Slices) (r₁ r₂ : Ended) → x ≤ y → AsLong l₁ l → AsLong l₂ l
      → Started n rows' exits' (under_limit x (given_of a)) l l₁ r₁ → r₁.stop ≡ MaxSteps
      → Resumed n rows' exits' (under_limit y (given_of a)) l₁ r₁.at l₂ r₂
      → (e : End) × (r₂ ≡ ended_of e) × Follows p (take (codels p) map') (under_limit y (given_of a)) (room_of l) e × (e.at.region < n)
      × (l₂ ≡ slices_of l e.at.store)
  picture_resumed x y l l₁ l₂ r₁ r₂ h long₁ long₂ p stop q =
      let g = given_of a in
      let e = end_of rows' exits' (under_limit y g) l in
      let f = follows T.sound (under_limit y g) T.tabled (room_of l) T.begins in
      let d = settled n e l₂ l r₂ long₂ (resume_run n rows' exits' g l x y l₁ l₂ r₁ r₂ h long₁ p stop q) in
      (e, d.0, f.0, f.1, d.1)
