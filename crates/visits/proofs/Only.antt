-- Two outcomes that the contract of `run_visits` allows for one input are equal, answer and every lent list:
--     visits_only       (of the inner functions `list_unvisited` has equations, and `count_visits` a history that is one)
-- and what they say:
--     visits_run        where it is not refused with 16 or 4, dropping the two slices gives the contract of `run`
--     visits_refusal    15, then 10, then 16, then 4, each exactly where it fits, and then nothing changes
--     visits_finished   an answer whose number is 0 is finished
--     visits_sum        the first n cells together are the steps and one more
--     visits_cells      each of them is how often its region stands in the history
--     start_unlisted    region 0 is not listed, so that a zero of the list is none of its nodes
--     cells_past        the cells of both slices past the first n are as they were
-- Assumes nothing.
use mathlib.Core.Path.{◌≡◌, refl, sym, ap, subst, ◌∙◌}
use mathlib.Core.Bool.{Bool, true, false, cond, ◌&&◌}
use mathlib.Core.List.{List}
use Prim.Native.Nat.{ℕ, ◌+◌, ◌<◌, ◌≤◌}
use native.Mathlib.Omega.{arith}
use borrow.Author.Tests.{ne_eqb}
use lib.Dec.{eqb, ltb}
use lib.ListN.{length, get_or, take, drop, length-map}
use lib.Seq.{take_at}
use Rattle.base.specs.Counting.{count, sum, counts}
use Rattle.base.specs.Edition.{unknown_edition, edition_of}
use Rattle.base.specs.Lent.{lent}
use Rattle.base.specs.Numbers.{number_of}
use Rattle.base.proofs.Clash.{clash}
use Rattle.base.proofs.CountingLaws.{counts_length, counts_sum}
use Rattle.base.proofs.Over.{lent_past}
use Rattle.machine.specs.Machine.{Asks, given_of}
use Rattle.machine.specs.Place.{start}
use Rattle.interpreter.specs.declared.Ended.{Ended}
use Rattle.table.specs.Layout.{mark_of}
use Rattle.table.specs.ExitNumber.{target_of}
use Rattle.interpreter.specs.Table.{valid_of, Good}
use Rattle.interpreter.specs.History.{regions_of}
use Rattle.interpreter.specs.Outcome as running
use Rattle.interpreter.specs.Outcome.{ended_of, job_of}
use Rattle.interpreter.proofs.ValidLaws.{good_of}
use Rattle.interpreter.proofs.Answering.{answer_unknown, answer_wrong, answer_right, run_refuses, run_finishes}
use Rattle.interpreter.proofs.Histories.{histories_same}
use Rattle.interpreter.proofs.Entering.{entered_below}
use Rattle.visits.specs.declared.Visited.{Visited}
use Rattle.std.specs.Prelude.{Result, Ok, Err, Option, Some, None}
use Rattle.base.specs.declared.refusal.Refusal as refusals
use Rattle.base.proofs.RefusalLaws.{number_some}
use Rattle.base.specs.declared.refusal.Refusal.TheVariants.{Edition, Table, Limit, Room}
use Rattle.visits.specs.Visits.{unvisited_of, list_of}
use Rattle.visits.specs.Outcome.{Lends, uncountable, too_short, numbered, ran_of, end, done_with, Outcome}
use Rattle.visits.proofs.Starting.{counts_held}
use Rattle.visits.proofs.ListingLaws.{listed_node, list_length}
use Rattle.visits.proofs.Answering.{Tested, unknown, wrong, endless, short, right, test_call, missed, refused, finished}

module _ (n : ℕ) (rows exits : List ℕ) (a : Asks) (l : Lends) where
  pub visits_only : {r r' : Result Visited refusals.Refusal} {l' l'' : Lends} → Outcome n rows exits a l r l' → Outcome n rows exits a l r' l'' → (r ≡ r') × (l' ≡ l'')
  visits_only {r} {r'} {l'} {l''} p q = let t = test_call n rows exits a l in go t.0 t.1
    where
      same : {x : Result Visited refusals.Refusal} {y : Lends} → (r ≡ x) × (l' ≡ y) → (r' ≡ x) × (l'' ≡ y) → (r ≡ r') × (l' ≡ l'')
      same u v = (u.0 ∙ sym v.0, u.1 ∙ sym v.1)

      go : (k : Option refusals.Refusal) → Tested n rows exits a l k → (r ≡ r') × (l' ≡ l'')
      go (Some k) t = same (refused n rows exits a l p t) (refused n rows exits a l q t)
      go None t =
          let e = histories_same (job_of rows exits (given_of a) l.run) q.history p.history in
          let x = finished n rows exits a l p t in
          let y = finished n rows exits a l q t in
          same x (subst (λ (ws : List ℕ). let entered = regions_of start ws in (r' ≡ Ok (record { ended = ended_of (end n rows exits a l); unvisited = missed n rows exits a l entered })) × (l'' ≡ done_with n rows exits a l entered)) e y)

  pub visits_run : {r : Result Visited refusals.Refusal} {l' : Lends} → Outcome n rows exits a l r l' → (number_of (numbered r) ≡ 16 → ⊥) → (number_of (numbered r) ≡ 4 → ⊥)
      → running.Outcome n rows exits a l.run (ran_of r) l'.run
  unfolding numbered
  visits_run {r} {l'} o x y = go (test_call n rows exits a l).1
    where
      given_by : {r' : Result Visited refusals.Refusal} {l'' : Lends} → (r ≡ r') × (l' ≡ l'') → running.Outcome n rows exits a l.run (ran_of r') l''.run
          → running.Outcome n rows exits a l.run (ran_of r) l'.run
      given_by {r'} e q =
          subst (λ (k : Result Visited refusals.Refusal). running.Outcome n rows exits a l.run (ran_of k) l'.run) (sym e.0)
          (subst (λ (k : Lends). running.Outcome n rows exits a l.run (ran_of r') k.run) (sym e.1) q)

      go : {k : Option refusals.Refusal} → Tested n rows exits a l k → running.Outcome n rows exits a l.run (ran_of r) l'.run
      go (unknown u) =
          given_by (refused n rows exits a l o (unknown u)) (run_refuses n rows exits a l.run Edition (answer_unknown n rows exits a l.run u))
      go (wrong u v) =
          given_by (refused n rows exits a l o (wrong u v)) (run_refuses n rows exits a l.run Table (answer_wrong n rows exits a l.run u v))
      go (endless u v m) = absurd (x (ap (λ (k : Result Visited refusals.Refusal). number_of (numbered k)) (refused n rows exits a l o (endless u v m)).0))
      go (short u v m s) = absurd (y (ap (λ (k : Result Visited refusals.Refusal). number_of (numbered k)) (refused n rows exits a l o (short u v m s)).0))
      go (right u v m s) =
          given_by (finished n rows exits a l o (right u v m s)) (run_finishes n rows exits a l.run (answer_right n rows exits a l.run u v) refl refl)

  -- 15 exactly where the edition is unknown, else 10 exactly where the table is not valid in it, else 16 exactly where the limit is the
  -- largest, else 4 exactly where one of the two slices is too short (rule 12.11), and then what is lent is as it was (rule 12.1)
  pub record Refusal (r : Result Visited refusals.Refusal) (l' : Lends) : Type 0 where
    pub edition : unknown_edition a.edition ≡ true → (r ≡ Err Edition) × (l' ≡ l)
    pub table : unknown_edition a.edition ≡ false → valid_of (edition_of a.edition) n rows exits ≡ false → (r ≡ Err Table) × (l' ≡ l)
    pub limit : unknown_edition a.edition ≡ false → valid_of (edition_of a.edition) n rows exits ≡ true → eqb a.limit uncountable ≡ true
        → (r ≡ Err Limit) × (l' ≡ l)
    pub room : unknown_edition a.edition ≡ false → valid_of (edition_of a.edition) n rows exits ≡ true → eqb a.limit uncountable ≡ false
        → too_short n l ≡ true → (r ≡ Err Room) × (l' ≡ l)
    pub none : unknown_edition a.edition ≡ false → valid_of (edition_of a.edition) n rows exits ≡ true → eqb a.limit uncountable ≡ false
        → too_short n l ≡ false → number_of (numbered r) ≡ 0

  pub visits_refusal : {r : Result Visited refusals.Refusal} {l' : Lends} → Outcome n rows exits a l r l' → Refusal r l'
  unfolding numbered
  visits_refusal o = record {
    edition = λ u. refused n rows exits a l o (unknown u);
    table = λ u v. refused n rows exits a l o (wrong u v);
    limit = λ u v m. refused n rows exits a l o (endless u v m);
    room = λ u v m s. refused n rows exits a l o (short u v m s);
    none = λ u v m s. ap (λ (k : Result Visited refusals.Refusal). number_of (numbered k)) (finished n rows exits a l o (right u v m s)).0;
  }

  -- an answer whose number is 0 is finished
  pub visits_finished : {r : Result Visited refusals.Refusal} {l' : Lends} → Outcome n rows exits a l r l' → 0 ≡ number_of (numbered r) → (v : Visited) × (r ≡ Ok v)
  unfolding numbered
  visits_finished {r} {l'} o h = let t = test_call n rows exits a l in go t.0 t.1
    where
      go : (k : Option refusals.Refusal) → Tested n rows exits a l k → (v : Visited) × (r ≡ Ok v)
      go None t = (record { ended = ended_of (end n rows exits a l); unvisited = missed n rows exits a l (regions_of start o.history.exits) }, (finished n rows exits a l o t).0)
      go (Some k) t =
          absurd (number_some k (sym (h ∙ ap (λ (x : Result Visited refusals.Refusal). number_of (numbered x)) (refused n rows exits a l o t).0)))

  module _ {v : Visited} {l' : Lends} (o : Outcome n rows exits a l (Ok v) l') where
    -- the regions entered, in their order
    abbrev entered : List ℕ
    entered = regions_of start o.history.exits

    -- the call was not refused
    pub not_refused : Tested n rows exits a l None
    not_refused = let t = test_call n rows exits a l in go t.0 t.1
      where
        go : (k : Option refusals.Refusal) → Tested n rows exits a l k → Tested n rows exits a l None
        go None t = t
        go (Some k) t = let z = (refused n rows exits a l o t).0 in clash cc

    held : l'.visits ≡ lent (counts n entered) l.visits
    held = ap (λ (x : Lends). x.visits) (finished n rows exits a l o not_refused).1

    pub visits_cells : (r : ℕ) → r < n → get_or l'.visits r 0 ≡ count r entered
    visits_cells = counts_held n entered l.visits held

    pub start_unlisted : count 0 (unvisited_of n rows (λ r. count r entered)) ≡ 0
    unfolding count
    start_unlisted =
        let some : count 0 entered ≡ 0 → ⊥ = λ e. omega arith in
        listed_node n rows (λ r. count r entered) 0 ∙ rw (ne_eqb (count 0 entered) 0 some) (never (ltb 0 n) (eqb (mark_of rows 0) 1))
      where
        never : (x y : Bool) → ◌≡◌ {A = ℕ} (cond (x && (y && false)) 1 0) 0
        never true true = refl
        never true false = refl
        never false y = refl

    pub cells_past : (i : ℕ) → n ≤ i → (get_or l'.visits i 0 ≡ get_or l.visits i 0) × (get_or l'.unvisited i 0 ≡ get_or l.unvisited i 0)
    cells_past i h = (
      ap (λ (x : List ℕ). get_or x i 0) held ∙ lent_past (counts n entered) l.visits 0 i (omega (arith, counts_length n entered)),
      ap (λ (x : Lends). get_or x.unvisited i 0) (finished n rows exits a l o not_refused).1
          ∙ lent_past (list_of n rows (λ r. count r entered)) l.unvisited 0 i (omega (arith, list_length n rows (λ r. count r entered))),
    )

    pub visits_sum : sum (take n l'.visits) ≡ v.ended.at.steps + 1
    unfolding lent
    visits_sum =
        let steps : v.ended.at.steps ≡ length o.history.exits = ap (λ (x : Ended). x.at.steps) (o.ends v refl) ∙ (omega (arith, o.history.counted)) in
        let below = entered_below (job_of rows exits (given_of a) l.run) (good not_refused) o.history.passes (good not_refused).some (record { dp = omega arith; cc = omega arith }) in
        ap (λ (x : List ℕ). sum (take n x)) held
        ∙ ap sum (take_at (counts n entered) (drop (length (counts n entered)) l.visits) n (counts_length n entered))
        ∙ counts_sum below
        ∙ (omega (arith, steps, length-map o.history.exits target_of))
      where
        good : Tested n rows exits a l None → Good n rows exits
        good (right u v m s) = good_of (edition_of a.edition) n rows exits v
