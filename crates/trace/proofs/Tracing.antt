-- From what a run of a job's picture answers to what is printed of it: it can be told, and what is told is its trace. Assumes nothing.
use mathlib.Core.Path.{◌≡◌, refl, sym, ap, subst, ◌∙◌}
use mathlib.Core.List.{List, [], ◌∷◌}
use Prim.Native.Nat.{ℕ, ◌<◌, ◌≤◌}
use native.Mathlib.Omega.{arith}
use lib.ListN.{length, take}
use Rattle.base.specs.Edition.{rust_number, edition_of}
use Rattle.base.specs.Numbers.{numbers}
use Rattle.picture.specs.Picture.{Picture, codels}
use Rattle.std.specs.Prelude.{Ok}
use Rattle.cfg.specs.Build as building
use Rattle.flow.specs.Pointer.{Valid}
use Rattle.machine.specs.Machine.{Given, RunRoom, Store, given_of}
use Rattle.machine.specs.Place.{start, End}
use Rattle.machine.specs.Held.{Slices, room_of}
use Rattle.interpreter.specs.declared.Ended.{Ended}
use Rattle.interpreter.specs.Table.{Good}
use Rattle.interpreter.specs.Run.{Job}
use Rattle.interpreter.specs.Outcome.{job_of, end_of, ended_of, slices_of}
use Rattle.interpreter.proofs.Histories.{run_history}
use Rattle.interpreter.proofs.ValidLaws.{good_of}
use Rattle.piet.specs.Follows.{Follows}
use Rattle.piet.specs.RunPicture as running
use Rattle.piet.specs.RunPicture.{Lends, asked_picture}
use Rattle.piet.proofs.BuiltTables.{Followed, runs}
use Rattle.piet.proofs.Following.{history_walks, stands_first, follows}
use Rattle.piet.proofs.FollowsOnly.{follows_only}
use Rattle.piet.proofs.Refusing as picture
use Rattle.job.specs.Encoding.{Content, IsJob}
use Rattle.answer.specs.Program.{asked_of, refusal_of, run_room, Ran, Labels, ran, Prints}
use Rattle.answer.specs.Printing.{label_in}
use Rattle.answer.proofs.Ending.{Sized, same_refusal, same_room, has_label, labelled, ran_so}
use Rattle.answer.proofs.Answering.{Finish, finish, prints}
use Rattle.trace.specs.Trace.{Traced, trace_room}
use Rattle.trace.specs.Told.{Told, Endable, Ends}
use Rattle.trace.proofs.Walking.{told_walks}

-- what slices hold of a store goes by their lengths
slices_same : (k k' : Slices) (m : Store) → length k.stack ≡ length k'.stack → length k.kinds ≡ length k'.kinds → length k.values ≡ length k'.values
    → slices_of k m ≡ slices_of k' m
slices_same k k' m a b c = rw (a, b, c) refl

module _ (c : Content) {l l' : Lends} (s : Sized l) (s' : Sized l') {x : Ended} {n : ℕ} (o : running.Outcome (asked_of c) l (Ok (record { ended = x; regions = n })) l') where
  abbrev p : Picture
  p = asked_picture (asked_of c)

  abbrev g : Given
  g = given_of (asked_of c).asks

  abbrev map : List ℕ
  map = take (codels p) l'.map

  f : Finish (asked_of c) l l' x n
  f = finish o

  none : refusal_of c ≡ numbers 0 (0 ∷ 0 ∷ [])
  none = sym (same_refusal c s) ∙ f.none

  -- the table is that of the picture
  table : Followed rust_number p l'.map l'.rows l'.exits n
  table =
      runs
      (subst (λ (k : ℕ). building.Outcome rust_number p l.map l.rows l.exits l.work (Ok k) l'.map l'.rows l'.exits l'.work) f.counted
      (building.done (picture.accepted (asked_of c) l (0 ∷ 0 ∷ []) (sym f.none)).builds f.runs.table))

  -- in the room of a job's run
  same_slices : room_of l'.run ≡ run_room
  same_slices = same_room s'

  abbrev job : Job
  job = job_of l'.rows l'.exits g l'.run

  abbrev end : End
  end = end_of l'.rows l'.exits g l'.run

  -- it ends where the run over the table does
  same_end : f.end ≡ end
  same_end =
      follows_only table.sound table.tabled.map_long g run_room
      (subst (λ (r : RunRoom). Follows p map g r f.end) (same_room s) f.runs.follows)
      (subst (λ (r : RunRoom). Follows p map g r end) same_slices (follows table.sound g table.tabled (room_of l'.run) table.begins).0)

  is-end : x ≡ ended_of end
  is-end = f.is ∙ ap ended_of same_end

  region_in : x.at.region < n
  region_in = let z : x.at.region ≡ f.end.at.region = ap (λ (y : Ended). y.at.region) f.is in omega (arith, z, f.counted, f.runs.inside)

  pointers_valid : Valid x.at.core.pointers
  pointers_valid =
      rw is-end
      (history_walks table.sound g table.tabled (room_of l'.run) (stands_first table.sound g table.tabled (room_of l'.run) table.begins)
      (run_history job g.terms.limit start).passes).valid

  slices_left : l'.run ≡ slices_of l'.run end.at.store
  slices_left =
      f.runs.run
      ∙ ap (λ (e : End). slices_of l.run e.at.store) same_end
      ∙ slices_same l.run l'.run end.at.store (s.stack ∙ sym s'.stack) (s.kinds ∙ sym s'.kinds) (s.values ∙ sym s'.values)

  in_table : {r : ℕ} → r < n → r < f.runs.regions
  in_table h = rw f.counted h

  -- the table may be relied on, and the run can be told
  pub good : Good n l'.rows l'.exits
  good = good_of (edition_of rust_number) n l'.rows l'.exits table.valid

  pub endable : (room : ℕ) → trace_room ≤ room → Endable n l'.rows l'.exits g l'.run x room
  endable room h = record {
    labelled = λ r k. has_label c s s' none f.runs r (in_table k);
    inside = region_in;
    ended = is-end;
    left = slices_left;
    valid = pointers_valid;
    sized = (s'.stack, s'.kinds, s'.values);
    roomy = h;
  }

  -- and what is told is printed
  pub prints_trace : {jobText : List ℕ} → IsJob jobText c → {before after : List ℕ} {r : ℕ} → Ends l'.rows l'.exits g l'.run before r after
      → Prints Traced jobText before r after
  prints_trace j t =
      let label : (r : ℕ) → r < n → Labels p map r (label_in l'.rows r) = λ r h. labelled c s s' none f.runs r (in_table h) in
      let told = subst (λ (r : RunRoom). Told (record { rows = l'.rows; exits = l'.exits; given = g; room = r }) t.at t.lines) same_slices t.told in
      let w = told_walks table.sound g table.tabled run_room table.begins label told in
      let last : end.at.region < n = omega (arith, region_in, ap (λ (y : Ended). y.at.region) is-end) in
      prints
      (ran c j none (record {
        map = map;
        end = end;
        ran = subst (Ran c map) same_end (ran_so c s s' none f.runs);
        history = w.history;
        region = t.at.region;
        store = t.at.store;
        walk = w.walk;
        first = sym w.counted ∙ t.steps;
        lines = t.lines;
        told = w.lines;
        label = label_in l'.rows end.at.region;
        labelled = label end.at.region last;
        is = t.is;
      }))
      t.wrote.put
