-- Observing a run: the loop's invariant, its turns and its end; and from the start. Assumes nothing.
use mathlib.Core.Path.{◌≡◌, refl, sym, ap, subst, ◌∙◌}
use mathlib.Core.Bool.{Bool, true, false}
use mathlib.Core.List.{List, [], ◌∷◌, ◌++◌, map, append-nil, map-append}
use Prim.Native.Nat.{ℕ, ◌+◌, ◌-◌, ◌^◌, ◌<◌, ◌≤◌}
use native.Mathlib.Omega.{arith}
use borrow.Author.Tests.{eqb-true, eqb-false, ne_eqb, ltb-true, ltb-false}
use lib.Dec.{eqb, ltb}
use lib.ListN.{length, get_or, take, drop, length-take, length-append, length-set, length-map}
use lib.Seq.{get_or-set_same, get_or-set_other, length-take-le, take_all, take-nil, drop-length, take-append_seam, take-append-le}
use Rattle.base.specs.Counting.{count}
use Rattle.base.specs.Lent.{lent}
use Rattle.base.proofs.CountingLaws.{count_append, count_most}
use Rattle.base.proofs.Tests.{by_size}
use Rattle.base.proofs.Over.{over_one, lent_length, lent_after}
use Rattle.table.specs.ExitNumber.{target_of}
use Rattle.machine.specs.Machine.{Given, JudgedIn}
use Rattle.machine.specs.Place.{Machine}
use Rattle.machine.specs.Held.{Slices}
use Rattle.machine.proofs.Only.{AsLong}
use Rattle.interpreter.specs.declared.State.{State}
use Rattle.interpreter.specs.declared.Ended.{Ended}
use Rattle.std.specs.Prelude.{Ok}
use Rattle.interpreter.specs.Run.{Job, goes, exit_from, step_of, run_of}
use Rattle.interpreter.specs.History.{Passes, stays}
use Rattle.interpreter.specs.Outcome.{job_of}
use Rattle.interpreter.specs.Resume.{machine_of, Placed, Reaches}
use Rattle.interpreter.specs.Moving.{Begun, next_of, After, Stepped}
use Rattle.interpreter.specs.Recorded.{taken_of}
use Rattle.interpreter.specs.Observed.{visited, CanCount, kept_at, Observed, ObservedFrom, ObservedAll}
use Rattle.interpreter.proofs.Histories.{step_kept, run_history, history_only, history_more}
use Rattle.interpreter.proofs.RunLaws.{same_job, Along, along_start, along_next}
use Rattle.interpreter.proofs.Settled.{begun_machine}

-- one visit more
module _ (v : List ℕ) (i : ℕ) where
  visited_length : length (visited i v) ≡ length v
  visited_length = go (ltb i (length v)) refl
    where
      go : (t : Bool) → ltb i (length v) ≡ t → length (visited i v) ≡ length v
      go true e = rw e (length-set v i (get_or v i 0 + 1))
      go false e = rw e refl

  visited_at : (r : ℕ) → r < length v → get_or (visited i v) r 0 ≡ get_or v r 0 + count r (i ∷ [])
  unfolding count
  visited_at r h = go (ltb i (length v)) (eqb i r) refl refl
    where
      go : (t s : Bool) → ltb i (length v) ≡ t → eqb i r ≡ s → get_or (visited i v) r 0 ≡ get_or v r 0 + count r (i ∷ [])
      go true true e q =
          let x : i ≡ r = eqb-true i r q in
          rw (e, q, ← x, get_or-set_same v i (get_or v i 0 + 1) 0 (ltb-true i (length v) e)) (omega arith)
      go true false e q =
          let d : r ≡ i → ⊥ = λ x. eqb-false i r q (sym x) in
          rw (e, q, get_or-set_other v i r (get_or v i 0 + 1) 0 d) (omega arith)
      go false s e q =
          let d : i ≡ r → ⊥ = λ x. omega (arith, ltb-false i (length v) e) in
          rw (e, ne_eqb i r d) (omega arith)

-- the exits kept
module _ (t : List ℕ) where
  pub taken_length : (p : List ℕ) → length (taken_of p t) ≡ length t
  taken_length p = lent_length (take (length t) p) t (omega (arith, length-take (length t) p))

  -- the cells that hold an exit
  pub taken_front : (p : List ℕ) → take (length p) (taken_of p t) ≡ take (length t) p
  unfolding lent
  taken_front p = by_size (length p) (length t) fewer more
    where
      fewer : length p < length t → take (length p) (taken_of p t) ≡ take (length t) p
      fewer h = rw (take_all (length t) p (omega arith)) (take-append_seam p (drop (length p) t))

      more : length t ≤ length p → take (length p) (taken_of p t) ≡ take (length t) p
      more h =
          let w = take (length t) p in
          let long : length w ≡ length t = length-take-le (length t) p h in
          take_all (length p) (taken_of p t) (omega (arith, taken_length p))
          ∙ ap (λ (r : List ℕ). w ++ r) (ap (λ (k : ℕ). drop k t) long ∙ drop-length t)
          ∙ append-nil w

  -- one exit more
  taken_more : (p : List ℕ) (w : ℕ) → kept_at (length p) w (taken_of p t) ≡ taken_of (p ++ (w ∷ [])) t
  taken_more p w = go (ltb (length p) (length t)) refl
    where
      go : (b : Bool) → ltb (length p) (length t) ≡ b → kept_at (length p) w (taken_of p t) ≡ taken_of (p ++ (w ∷ [])) t
      go true e =
          let h : length p < length t = ltb-true (length p) (length t) e in
          let all : take (length t) p ≡ p = take_all (length t) p (omega arith) in
          let more : take (length t) (p ++ (w ∷ [])) ≡ p ++ (w ∷ []) = take_all (length t) (p ++ (w ∷ [])) (omega (arith, length-append p (w ∷ []))) in
          let long : length (lent p t) ≡ length t = lent_length p t (omega arith) in
          rw (all, more, long, e) (over_one (lent p t) (length p) w (omega arith) ∙ lent_after p t (w ∷ []) (omega arith))
      go false e =
          let h : length t ≤ length p = ltb-false (length p) (length t) e in
          rw (taken_length p, e, take-append-le (length t) p (w ∷ []) h) refl

module _ (n : ℕ) (rows exits : List ℕ) (g : Given) (l₀ : Slices) (from : State) (v₀ t₀ : List ℕ) where
  abbrev job : Job
  job = job_of rows exits g l₀

  -- the run is on its way, by the exits passed; each cell has grown by how often they lead to its region, and they are kept
  pub record Observes (l : Slices) (at : State) (v t : List ℕ) : Type 0 where
    pub along : Along n rows exits g l₀ from l at
    pub passed : List ℕ
    pub passes : Passes job (machine_of l₀ from) passed (machine_of l at)
    pub made : at.steps ≡ from.steps + length passed
    pub long : length v ≡ length v₀
    pub cells : (r : ℕ) → r < length v₀ → get_or v r 0 ≡ get_or v₀ r 0 + count r (map target_of passed)
    pub kept : t ≡ taken_of passed t₀

  pub observes_start : Placed n l₀ from → JudgedIn g from.core.reading → Observes l₀ from v₀ t₀
  unfolding count lent
  observes_start p j = record {
    along = along_start n rows exits g l₀ from p j;
    passed = [];
    passes = stays;
    made = omega arith;
    long = refl;
    cells = λ r _. omega arith;
    kept = rw (take-nil (length t₀)) refl;
  }

  module _ {l : Slices} {at : State} {v x : List ℕ} (t : Observes l at v x) where
    -- the next step can be counted
    pub observes_room : CanCount n v₀ (g.terms.limit - from.steps) → at.steps < g.terms.limit → (r : ℕ) → r < n → r < length v → get_or v r 0 + 1 < 2 ^ 64
    observes_room c h r k m =
        let q : r < length v₀ = omega (arith, t.long) in
        omega (arith, c r k q, t.cells r q, t.made, count_most r (map target_of t.passed), length-map t.passed target_of)

    pub observes_next : {l' : Slices} {at' : State} {by : ℕ} → at.steps < g.terms.limit
        → Stepped n rows exits g l at l' (Ok (record { next = at'; by = by })) → AsLong l' l
        → Observes l' at' (visited at'.region v) (kept_at (at.steps - from.steps) by x)
    unfolding next_of After
    observes_next {l'} {at'} {by} h s k =
        let w = exit_from job (machine_of l at) in
        let e : step_of job (machine_of l at) ≡ goes (machine_of l' at') =
        sym (s.is ∙ ap (λ (j : Job). step_of j (machine_of l at)) (same_job rows exits g {l = l} {l₀ = l₀} t.along.long)) in
        let reached = (step_kept job (machine_of l at) (machine_of l' at') e).region in
        let targets = map target_of t.passed in
        let same : by ≡ w = s.leaves.2 ∙ ap (λ (j : Job). exit_from j (machine_of l at)) (same_job rows exits g {l = l} {l₀ = l₀} t.along.long) in
        let made : at.steps - from.steps ≡ length t.passed = omega (arith, t.made) in
        record {
          along = along_next n rows exits g l₀ from t.along h s k;
          passed = t.passed ++ (w ∷ []);
          passes = history_more job t.passes e;
          made = omega (arith, s.leaves.1, t.made, length-append t.passed (w ∷ []));
          long = visited_length v at'.region ∙ t.long;
          cells =
              λ r b.
              let x : get_or (visited at'.region v) r 0 ≡ get_or v₀ r 0 + count r (targets ++ (at'.region ∷ [])) =
              omega (arith, visited_at v at'.region r (omega (arith, t.long)), t.cells r b, count_append r targets (at'.region ∷ [])) in
              x ∙ ap (λ (y : List ℕ). get_or v₀ r 0 + count r y) (ap (λ (i : ℕ). targets ++ (i ∷ [])) reached ∙ sym (map-append target_of t.passed (w ∷ [])));
          kept = rw (made, same, t.kept) (taken_more t₀ t.passed w);
        }

    -- where the run ends its exits are those passed
    pub observes_end : {l' : Slices} {r : Ended} → machine_of l' r.at ≡ machine_of l at
        → Reaches n (run_of job (g.terms.limit - from.steps) (machine_of l₀ from)) l' r
        → ObservedFrom rows exits g l₀ from v₀ v t₀ x
    observes_end {l'} {r} same q =
        let k = g.terms.limit - from.steps in
        let H = run_history job k (machine_of l₀ from) in
        let e : (run_of job k (machine_of l₀ from)).at ≡ machine_of l at = sym q.at ∙ same in
        let z : (run_of job k (machine_of l₀ from)).at.steps ≡ at.steps = ap (λ (m : Machine). m.steps) e in
        let o = history_only job H.passes t.passes (omega (arith, H.counted, t.made)) in
        record { history = H; cells = λ i b. t.cells i b ∙ ap (λ (ws : List ℕ). get_or v₀ i 0 + count i (map target_of ws)) (sym o.0); exits = t.kept ∙ ap (λ (ws : List ℕ). taken_of ws t₀) (sym o.0) }

-- what was observed from where a run begins is observed from the start
pub observed_begun : (rows exits : List ℕ) (g : Given) {l l₁ : Slices} {from : State} → Begun l l₁ from → AsLong l₁ l → {v v' t t' : List ℕ}
    → ObservedFrom rows exits g l₁ from v v' t t' → ObservedAll rows exits g l v v' t t'
observed_begun rows exits g {l} {l₁} {from} b long {v} {v'} {t} {t'} c =
    let job : Job = job_of rows exits g l in
    subst (λ (m : Machine). Observed job g.terms.limit m (run_of job g.terms.limit m) v v' t t') (begun_machine b)
    (subst (λ (k : ℕ). Observed job k (machine_of l₁ from) (run_of job k (machine_of l₁ from)) v v' t t') (whole g.terms.limit)
    (subst (λ (j : Job). let k = g.terms.limit - from.steps in Observed j k (machine_of l₁ from) (run_of j k (machine_of l₁ from)) v v' t t')
    (same_job rows exits g {l = l₁} {l₀ = l} long) c))
  where
    whole : (limit : ℕ) → limit - from.steps ≡ limit
    whole limit = let z : from.steps ≡ 0 = ap (λ (s : State). s.steps) b.at in omega arith
