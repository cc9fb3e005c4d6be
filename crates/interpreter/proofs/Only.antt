-- Two outcomes that a contract allows for one input are equal, answer and every lent list, for each public function:
--     run                       run_only
--     run_history               recorded_only
--     resume, step              resume_only, step_only
--     run_observed              run_observed_only
--     determine_runs_forever    forever_only
--     valid                     `equation_only` of base's proofs/Only.antt
-- and what the answers say:
--     run_refusal               15 exactly where the edition is unknown, else 10 exactly where the table is not valid, and then
--                               nothing changes; `recorded_refused`: nor do the cells for exits
--     recorded_exits            the cells hold the exits in their order, as far as there are exits and cells, and past them what they held
--     forever_answer            which of its three answers `determine_runs_forever` gives
-- Assumes nothing.
use mathlib.Core.Path.{◌≡◌, refl, sym, ap, ◌∙◌}
use mathlib.Core.Bool.{Bool, true, false, not, cond}
use mathlib.Core.List.{List, [], ◌∷◌, map}
use Prim.Native.Nat.{ℕ, zero, suc, ◌+◌, ◌<◌, ◌≤◌}
use native.Mathlib.Omega.{arith}
use lib.ListN.{length, get_or, take, length-take}
use lib.Seq.{ext_get_or, get_or-take}
use Rattle.base.specs.declared.edition.Edition.TheVariants.{Rust}
use Rattle.base.specs.Edition.{unknown_edition, edition_of}
use Rattle.base.specs.Numbers.{Numbers, numbers, number_of, values_of, row, first, unless_refused}
use Rattle.base.proofs.Over.{lent_front, lent_past}
use Rattle.base.specs.Counting.{count}
use Rattle.table.specs.ExitNumber.{target_of}
use Rattle.base.proofs.Clash.{clash}
use Rattle.machine.specs.declared.Stop.TheVariants.{MaxSteps}
use Rattle.machine.specs.Machine.{Given, Asks, given_of}
use Rattle.machine.specs.Place.{Machine, End}
use Rattle.machine.specs.Held.{Slices}
use Rattle.machine.proofs.Only.{AsLong}
use Rattle.interpreter.specs.declared.State.{State}
use Rattle.interpreter.specs.declared.Ended.{Ended}
use Rattle.std.specs.Prelude.{Result, Ok, Err}
use Rattle.base.specs.declared.refusal.Refusal as refusals
use Rattle.base.specs.declared.refusal.Refusal.TheVariants.{Edition, Table}
use Rattle.base.proofs.RefusalLaws.{past_places, refused_only, never_done}
use Rattle.interpreter.specs.Table.{wrong_table, valid_of, every}
use Rattle.interpreter.specs.Forever as Always
use Rattle.interpreter.specs.declared.stepping.Moved.{Moved}
use Rattle.machine.specs.declared.Stop.{Stop}
use Rattle.interpreter.specs.Run.{Job, goes}
use Rattle.interpreter.specs.Outcome.{refused, numbered, slices_of, place_of, job_of, answer, Outcome}
use Rattle.interpreter.specs.Resume.{machine_of, Placed, Resumed, Started}
use Rattle.interpreter.specs.Moving.{next_of, After, Stepped}
use Rattle.interpreter.specs.Recorded.{taken_of, Recorded}
use Rattle.interpreter.specs.Observed.{Observed, ObservedAll}
use Rattle.interpreter.proofs.Histories.{histories_same}
use Rattle.interpreter.proofs.Settled.{settled}
use Rattle.interpreter.proofs.Answering.{Tested, unknown, wrong, right, test_call, answer_unknown, answer_wrong, answer_right, refuses, finishes, recorded}

module _ (n : ℕ) (rows exits : List ℕ) (a : Asks) (l : Slices) where
  pub run_only : {r r' : Result Ended refusals.Refusal} {l' l'' : Slices} → Outcome n rows exits a l r l' → Outcome n rows exits a l r' l'' → (r ≡ r') × (l' ≡ l'')
  run_only {r} {r'} {l'} {l''} p q = go (test_call n rows exits a l)
    where
      same : {x : Result Ended refusals.Refusal} {y : Slices} → (r ≡ x) × (l' ≡ y) → (r' ≡ x) × (l'' ≡ y) → (r ≡ r') × (l' ≡ l'')
      same u v = (u.0 ∙ sym v.0, u.1 ∙ sym v.1)

      go : Tested n rows exits a l → (r ≡ r') × (l' ≡ l'')
      go (unknown u) =
          let h = answer_unknown n rows exits a l u in
          same (refuses n rows exits a l p Edition (past_places (omega arith)) h) (refuses n rows exits a l q Edition (past_places (omega arith)) h)
      go (wrong u v) =
          let h = answer_wrong n rows exits a l u v in
          same (refuses n rows exits a l p Table (past_places (omega arith)) h) (refuses n rows exits a l q Table (past_places (omega arith)) h)
      go (right u v) =
          let h = answer_right n rows exits a l u v in
          same (finishes n rows exits a l p h) (finishes n rows exits a l q h)

  -- 15 exactly where the edition is unknown, else 10 exactly where the table is not valid in it (rule 12.6), and then what is
  -- lent is as it was (rule 12.1)
  pub record Refusal (r : Result Ended refusals.Refusal) (l' : Slices) : Type 0 where
    pub edition : unknown_edition a.edition ≡ true → (numbered r ≡ refused 15) × (l' ≡ l)
    pub table : unknown_edition a.edition ≡ false → valid_of (edition_of a.edition) n rows exits ≡ false → (numbered r ≡ refused 10) × (l' ≡ l)
    pub none : unknown_edition a.edition ≡ false → valid_of (edition_of a.edition) n rows exits ≡ true → number_of (numbered r) ≡ 0

  pub run_refusal : {r : Result Ended refusals.Refusal} {l' : Slices} → Outcome n rows exits a l r l' → Refusal r l'
  unfolding numbered
  run_refusal {r} {l'} o = record {
    edition =
        λ u.
        let x = refuses n rows exits a l o Edition (past_places (omega arith)) (answer_unknown n rows exits a l u) in
        (ap numbered x.0, x.1);
    table =
        λ u v.
        let x = refuses n rows exits a l o Table (past_places (omega arith)) (answer_wrong n rows exits a l u v) in
        (ap numbered x.0, x.1);
    none = λ u v. ap (λ (y : Result Ended refusals.Refusal). number_of (numbered y)) (finishes n rows exits a l o (answer_right n rows exits a l u v)).0;
  }

-- the same with the exits recorded
module _ (n : ℕ) (rows exits : List ℕ) (a : Asks) (l : Slices) (taken : List ℕ) where
  pub recorded_only : {r r' : Result Ended refusals.Refusal} {l' l'' : Slices} {t' t'' : List ℕ} → Recorded n rows exits a l taken r l' t' → Recorded n rows exits a l taken r' l'' t''
      → (r ≡ r') × (l' ≡ l'') × (t' ≡ t'')
  recorded_only p q =
      let same = run_only n rows exits a l p.run q.run in
      let one = histories_same (job_of rows exits (given_of a) l) p.history q.history in
      (same.0, same.1, p.leaves ∙ ap (λ (ws : List ℕ). unless_refused (answer n rows exits a l) (taken_of ws taken) taken) one ∙ sym q.leaves)

  module _ {r : Result Ended refusals.Refusal} {l' : Slices} {t' : List ℕ} (o : Recorded n rows exits a l taken r l' t') where
    -- a refused call
    pub recorded_refused : (number_of (numbered r) ≡ 0 → ⊥) → t' ≡ taken
    recorded_refused h = o.leaves ∙ kept (answer n rows exits a l) (λ z. h (ap number_of o.run.answers ∙ z))
      where
        kept : (x : Numbers) → (number_of x ≡ 0 → ⊥) → unless_refused x (taken_of o.history.exits taken) taken ≡ taken
        kept (numbers zero v) h = absurd (h refl)
        kept (numbers (suc k) v) h = refl

    -- one that is not
    pub recorded_exits : unknown_edition a.edition ≡ false → valid_of (edition_of a.edition) n rows exits ≡ true
        → ((i : ℕ) → i < length o.history.exits → i < length taken → get_or t' i 0 ≡ get_or o.history.exits i 0)
        × ((i : ℕ) → length o.history.exits ≤ i → get_or t' i 0 ≡ get_or taken i 0)
    recorded_exits u v =
        let ws = o.history.exits in
        let is : t' ≡ taken_of ws taken = recorded n rows exits a l taken o (answer_right n rows exits a l u v) in
        let first = take (length taken) ws in (
          λ i h k.
              ap (λ (x : List ℕ). get_or x i 0) is
              ∙ lent_front first taken 0 i (omega (arith, length-take (length taken) ws))
              ∙ get_or-take (length taken) ws i 0 k,
          λ i h. ap (λ (x : List ℕ). get_or x i 0) is ∙ lent_past first taken 0 i (omega (arith, length-take (length taken) ws)),
        )

-- a call leaves the length of a lent slice as it is
module _ (n : ℕ) (rows exits : List ℕ) (g : Given) (l : Slices) (from : State) where
  pub resume_only : (l' l'' : Slices) (r r' : Ended) → AsLong l' l → AsLong l'' l
      → Resumed n rows exits g l from l' r → Resumed n rows exits g l from l'' r' → (r ≡ r') × (l' ≡ l'')
  resume_only l' l'' r r' h k p q =
      let a = settled n _ l' l r h p in
      let b = settled n _ l'' l r' k q in
      (a.0 ∙ sym b.0, a.1 ∙ sym b.1)

-- where a step comes to, and the slices there
module _ (n : ℕ) (rows exits : List ℕ) (g : Given) (l : Slices) (at : State) where
  -- a place with its slices is that of the machine that they hold
  placed_only : {l' : Slices} {at' : State} {m : Machine} → AsLong l' l → Placed n l' at' → machine_of l' at' ≡ m → (at' ≡ place_of m) × (l' ≡ slices_of l m.store)
  placed_only {l'} {at'} {m} h p e =
      let s = settled n (record { stop = MaxSteps; at = m }) l' l (record { stop = MaxSteps; at = at' }) h (record { placed = p; stop = refl; at = e }) in
      (ap (λ (x : Ended). x.at) s.0, s.1)

  pub step_only : {l' l'' : Slices} (r r' : Result Moved Stop) → AsLong l' l → AsLong l'' l → Stepped n rows exits g l at l' r → Stepped n rows exits g l at l'' r'
      → (r ≡ r') × (l' ≡ l'')
  unfolding next_of After
  step_only {l'} {l''} (Ok a) (Ok b) h k p q =
      let same : machine_of l' a.next ≡ machine_of l'' b.next = reached_same (p.is ∙ sym q.is) in
      let x = placed_only h p.leaves.0 refl in
      let y = placed_only k q.leaves.0 (sym same) in
      let place : a.next ≡ b.next = x.0 ∙ sym y.0 in
      let exit : a.by ≡ b.by = p.leaves.2 ∙ sym q.leaves.2 in
      (λ t. Ok (record { next = place t; by = exit t }), x.1 ∙ sym y.1)
    where
      reached_same : {m m' : Machine} → goes m ≡ goes m' → m ≡ m'
      reached_same e = cc
  step_only (Ok a) (Err s) h k p q = let z = p.is ∙ sym q.is in clash cc
  step_only (Err s) (Ok a) h k p q = let z = p.is ∙ sym q.is in clash cc
  step_only (Err s) (Err t) h k p q = let z = p.is ∙ sym q.is in let same : s ≡ t = cc in (ap Err same, p.leaves ∙ sym q.leaves)

-- a run is observed in one way
observed_only : {j : Job} {k : ℕ} {m : Machine} {e : End} {v v' v'' t t' t'' : List ℕ} → length v' ≡ length v → length v'' ≡ length v
    → Observed j k m e v v' t t' → Observed j k m e v v'' t t'' → (v' ≡ v'') × (t' ≡ t'')
observed_only {j} {v = v} {v'} {v''} {t} h i p q =
    let same = histories_same j p.history q.history in (
      ext_get_or 0 v' v'' (h ∙ sym i)
          (λ r k.
          let b : r < length v = omega arith in
          p.cells r b ∙ ap (λ (ws : List ℕ). get_or v r 0 + count r (map target_of ws)) same ∙ sym (q.cells r b)),
      p.exits ∙ ap (λ (ws : List ℕ). taken_of ws t) same ∙ sym q.exits,
    )

module _ (n : ℕ) (rows exits : List ℕ) (g : Given) (l : Slices) (v t : List ℕ) where
  pub run_observed_only : (r r' : Ended) {l' l'' : Slices} {v' v'' t' t'' : List ℕ} → AsLong l' l → AsLong l'' l → length v' ≡ length v → length v'' ≡ length v
      → Started n rows exits g l l' r × ObservedAll rows exits g l v v' t t' → Started n rows exits g l l'' r' × ObservedAll rows exits g l v v'' t t''
      → (r ≡ r') × (l' ≡ l'') × (v' ≡ v'') × (t' ≡ t'')
  run_observed_only r r' {l'} {l''} h k x y p q =
      let a = settled n _ l' l r h p.0 in
      let b = settled n _ l'' l r' k q.0 in
      let o = observed_only x y p.1 q.1 in
      (a.0 ∙ sym b.0, a.1 ∙ sym b.1, o.0, o.1)

module _ (n : ℕ) (rows exits : List ℕ) where
  pub forever_answer : {r : Result Bool refusals.Refusal} → Always.numbered r ≡ Always.answer n rows exits
      → r ≡ cond (valid_of Rust n rows exits) (Ok (every (Always.onward rows exits) n)) (Err Table)
  unfolding first Always.numbered
  forever_answer {r} p = go (wrong_table Rust n rows exits) (every (Always.onward rows exits) n) p
    where
      by_value : (r : Result Bool refusals.Refusal) (u : Bool) → Always.numbered r ≡ numbers 0 (cond u 1 0 ∷ []) → r ≡ Ok u
      by_value (Ok true) true e = refl
      by_value (Ok true) false e = let z : suc zero ≡ 0 = ap (λ (x : Numbers). get_or (values_of x) 0 0) e in absurd (omega arith)
      by_value (Ok false) true e = let z : zero ≡ 1 = ap (λ (x : Numbers). get_or (values_of x) 0 0) e in absurd (omega arith)
      by_value (Ok false) false e = refl
      by_value (Err k) u e = absurd (never_done k _ _ e)

      go : (t u : Bool) → Always.numbered r ≡ first (row t (numbers 10 (0 ∷ [])) ∷ []) (numbers 0 (cond u 1 0 ∷ [])) → r ≡ cond (not t) (Ok u) (Err Table)
      go true u e = refused_only (λ (yes : Bool). cond yes 1 0 ∷ []) (λ k. 0 ∷ []) Table (0 ∷ []) (past_places (omega arith)) r e
      go false u e = by_value r u e

  pub forever_only : {r r' : Result Bool refusals.Refusal} → Always.numbered r ≡ Always.answer n rows exits → Always.numbered r' ≡ Always.answer n rows exits
      → r ≡ r'
  forever_only p q = forever_answer p ∙ sym (forever_answer q)
