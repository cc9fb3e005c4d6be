-- A run on its way: the loop's invariant, its turns and its ends. Assumes nothing.
use mathlib.Core.Path.{◌≡◌, refl, sym, ap, ◌∙◌}
use mathlib.Core.List.{List}
use Prim.Native.Nat.{ℕ, suc, ◌+◌, ◌-◌, ◌<◌, ◌≤◌}
use native.Mathlib.Omega.{arith}
use Rattle.machine.specs.declared.Stop.{Stop}
use Rattle.machine.specs.declared.Stop.TheVariants.{MaxSteps}
use Rattle.machine.specs.Machine.{Given, JudgedIn}
use Rattle.machine.specs.Place.{Machine, End}
use Rattle.machine.specs.Held.{Slices}
use Rattle.machine.proofs.Only.{AsLong}
use Rattle.interpreter.specs.Run.{Job, Went, goes, halts, after, step_of, run_of}
use Rattle.interpreter.specs.Outcome.{job_of}
use Rattle.interpreter.specs.Resume.{machine_of, Placed, Reaches}
use Rattle.interpreter.specs.Moving.{next_of, After, Steps}
use Rattle.interpreter.specs.declared.State.{State}
use Rattle.std.specs.Prelude.{Ok, Err}
use Rattle.interpreter.proofs.Histories.{step_judged}

pub same_job : (rows exits : List ℕ) (g : Given) {l l₀ : Slices} → AsLong l l₀
    → job_of rows exits g l ≡ job_of rows exits g l₀
same_job rows exits g h = rw (h.stack, h.kinds, h.values) refl

-- one step of the definition, where one is left; and none
unroll : (j : Job) (limit k : ℕ) (m : Machine) → k < limit
    → run_of j (limit - k) m ≡ after (run_of j (limit - (k + 1))) m (step_of j m)
unfolding run_of
unroll j limit k m h = ap (λ (i : ℕ). run_of j i m) (one_more limit k h)
  where
    one_more : (l k : ℕ) → k < l → l - k ≡ suc (l - (k + 1))
    one_more l k h = omega arith

spent : (j : Job) (limit k : ℕ) (m : Machine) → limit ≤ k → run_of j (limit - k) m ≡ record { stop = MaxSteps; at = m }
unfolding run_of
spent j limit k m h = ap (λ (i : ℕ). run_of j i m) (none limit k h)
  where
    none : (l k : ℕ) → l ≤ k → l - k ≡ 0
    none l k h = omega arith

module _ (n : ℕ) (rows exits : List ℕ) (g : Given) (l₀ : Slices) (from : State) where
  abbrev limit : ℕ
  limit = g.terms.limit

  abbrev job : Job
  job = job_of rows exits g l₀

  abbrev whole : End
  whole = run_of job (limit - from.steps) (machine_of l₀ from)

  -- what is left to run gives the whole run
  pub record Along (l : Slices) (at : State) : Type 0 where
    pub placed : Placed n l at
    pub judged : JudgedIn g at.core.reading
    pub long : AsLong l l₀
    pub same : whole ≡ run_of job (limit - at.steps) (machine_of l at)

  pub along_start : Placed n l₀ from → JudgedIn g from.core.reading → Along l₀ from
  along_start p j = record { placed = p; judged = j; long = record { stack = refl; kinds = refl; values = refl }; same = refl }

  module _ {l : Slices} {at : State} (a : Along l at) where
    -- what the definition does with what the step came to
    onward : (x : Went) → at.steps < limit → x ≡ step_of (job_of rows exits g l) (machine_of l at)
        → whole ≡ after (run_of job (limit - (at.steps + 1))) (machine_of l at) x
    onward x h e =
        a.same ∙ unroll job limit at.steps (machine_of l at) h
        ∙ ap (after (run_of job (limit - (at.steps + 1))) (machine_of l at))
        (sym (e ∙ ap (λ (j : Job). step_of j (machine_of l at)) (same_job rows exits g a.long)))

    pub along_next : {l' : Slices} {at' : State} → at.steps < limit
        → {by w : ℕ} → Steps (step_of (job_of rows exits g l) (machine_of l at)) w n l at l' (Ok (record { next = at'; by = by })) → AsLong l' l → Along l' at'
    unfolding After next_of after
    along_next {l'} {at'} h s e = record {
      placed = s.leaves.0;
      judged = step_judged (job_of rows exits g l) (machine_of l at) (machine_of l' at') (sym s.is) a.judged;
      long =
          record { stack = e.stack ∙ a.long.stack; kinds = e.kinds ∙ a.long.kinds; values = e.values ∙ a.long.values };
      same =
          onward (goes (machine_of l' at')) h s.is ∙ ap (λ (k : ℕ). run_of job (limit - k) (machine_of l' at'))
          (sym s.leaves.1);
    }

    pub ends_halted : {l' : Slices} (s : Stop) → at.steps < limit
        → {w : ℕ} → Steps (step_of (job_of rows exits g l) (machine_of l at)) w n l at l' (Err s)
        → Reaches n whole l' (record { stop = s; at = at })
    unfolding After next_of after
    ends_halted s h x =
        rw (onward (halts s) h x.is, x.leaves) (record { placed = a.placed; stop = refl; at = refl })

    pub ends_limit : limit ≤ at.steps → Reaches n whole l (record { stop = MaxSteps; at = at })
    ends_limit h =
        rw (a.same ∙ spent job limit at.steps (machine_of l at) h)
        (record { placed = a.placed; stop = refl; at = refl })
