-- The loop that tells a run's first moves: its invariant, its turns and its end. Assumes nothing.
use mathlib.Core.Path.{◌≡◌, refl, sym, ap, subst, ◌∙◌}
use mathlib.Core.List.{List, [], ◌++◌}
use Prim.Native.Nat.{ℕ, ◌+◌, ◌-◌, ◌*◌, ◌<◌, ◌≤◌}
use native.Mathlib.Omega.{arith}
use lib.ListN.{length}
use Rattle.machine.specs.Machine.{Given}
use Rattle.machine.specs.Place.{Machine}
use Rattle.machine.specs.Held.{Slices}
use Rattle.machine.proofs.Only.{AsLong}
use Rattle.interpreter.specs.declared.State.{State}
use Rattle.interpreter.specs.Run.{Job, Went, goes, halts, step_of, run_of}
use Rattle.interpreter.specs.Outcome.{job_of, end_of}
use Rattle.interpreter.specs.Resume.{machine_of}
use Rattle.interpreter.specs.Moving.{Begun, next_of, After}
use Rattle.interpreter.proofs.RunLaws.{same_job, Along, along_start, along_next, ends_halted}
use Rattle.interpreter.proofs.Settled.{begun_machine, begun_placed, begun_judged, begun_run}
use Rattle.report.specs.Wrote.{Wrote}
use Rattle.report.proofs.Writing.{put_none, wrote, widen, wrote_room, wrote_then}
use Rattle.trace.specs.declared.Shown.{Shown}
use Rattle.trace.specs.Told.{step_line, Told, none, more, Goes, Steps, Tells}

module _ (n : ℕ) (rows exits : List ℕ) (g : Given) (l₀ : Slices) (from : State) (shown : ℕ) (d₀ : List ℕ) where
  abbrev job : Job
  job = job_of rows exits g l₀

  -- the run is on its way, and its steps are told
  pub record Telling (l : Slices) (at : State) (end : ℕ) (d : List ℕ) : Type 0 where
    pub along : Along n rows exits g l₀ from l at
    pub text : List ℕ
    pub told : Told job (machine_of l at) text
    pub wrote : Wrote d₀ 0 text end d (512 * at.steps)
    pub few : at.steps ≤ shown

  module _ {l : Slices} {at : State} {end : ℕ} {d : List ℕ} (t : Telling l at end d) where
    -- a step that the run makes is made here
    made_here : at.steps < g.terms.limit → at.steps < (run_of job (g.terms.limit - from.steps) (machine_of l₀ from)).at.steps
        → Goes (job_of rows exits g l) (machine_of l at)
    unfolding next_of After
    made_here h k = go (step_of (job_of rows exits g l) (machine_of l at)) refl
      where
        go : (x : Went) → step_of (job_of rows exits g l) (machine_of l at) ≡ x → Goes (job_of rows exits g l) (machine_of l at)
        go (goes m') e = (m', e)
        go (halts s) e =
            let q = ends_halted n rows exits g l₀ from t.along s h {w = 0} (record { is = sym e; leaves = refl }) in
            let z : at.steps ≡ (run_of job (g.terms.limit - from.steps) (machine_of l₀ from)).at.steps = ap (λ (m : Machine). m.steps) q.at in
            absurd (omega arith)

    pub telling_room : 512 * shown ≤ length d₀ → at.steps < shown → end + 512 ≤ length d
    telling_room h k = wrote_room 512 t.wrote (omega arith)

    pub telling_next : {l' : Slices} {r : Shown} {d' : List ℕ} → at.steps < g.terms.limit → at.steps < shown → 512 * shown ≤ length d₀
        → Steps n rows exits g l at l' d end r d' → AsLong l' l → Telling l' r.at r.end d'
    unfolding next_of After
    telling_next {l'} {r} {d'} h k room s long =
        let same : job_of rows exits g l ≡ job = same_job rows exits g {l = l} {l₀ = l₀} t.along.long in
        let m = machine_of l at in
        let m' = machine_of l' r.at in
        let next : r.at.steps ≡ at.steps + 1 = s.stepped.leaves.1 in
        record {
          along = along_next n rows exits g l₀ from t.along h s.stepped long;
          text = t.text ++ step_line job m m';
          told = more t.told (sym (s.stepped.is ∙ ap (λ (j : Job). step_of j m) same));
          wrote =
              widen
              (wrote_then t.wrote (subst (λ (j : Job). Wrote d end (step_line j m m') r.end d' 512) same s.line) (omega arith))
              (512 * r.at.steps) (omega arith);
          few = omega arith;
        }

-- from where a run begins, whose slices were cleared for it, and to where all moves are told
module _ (n : ℕ) (rows exits : List ℕ) (g : Given) (l : Slices) {l₁ : Slices} {from : State} (b : Begun l l₁ from) (long : AsLong l₁ l) (shown : ℕ) (d₀ : List ℕ) where
  pub telling_start : 0 < n → Telling n rows exits g l₁ from shown d₀ l₁ from 0 d₀
  telling_start h =
      let none_yet : from.steps ≡ 0 = ap (λ (s : State). s.steps) b.at in
      record {
        along = along_start n rows exits g l₁ from (begun_placed b n h) (begun_judged b g);
        text = [];
        told = subst (λ (m : Machine). Told (job_of rows exits g l₁) m []) (sym (begun_machine b)) none;
        wrote = wrote (put_none d₀ 0) (512 * from.steps) (omega arith);
        few = omega arith;
      }

  pub telling_end : {l' : Slices} {at : State} {end : ℕ} {d : List ℕ} → Telling n rows exits g l₁ from shown d₀ l' at end d → shown ≤ at.steps
      → Tells rows exits g l shown d₀ end d
  telling_end {l'} {at} {end} {d} t h =
      let all : at.steps ≡ shown = omega (arith, t.few) in
      record {
        at = machine_of l' at;
        steps = all;
        text = t.text;
        told = subst (λ (j : Job). Told j (machine_of l' at) t.text) (same_job rows exits g {l = l₁} {l₀ = l} long) t.told;
        wrote = subst (λ (k : ℕ). Wrote d₀ 0 t.text end d (512 * k)) all t.wrote;
      }

  -- the step that comes next is one that the run makes
  pub telling_goes : {l' : Slices} {at : State} {end : ℕ} {d : List ℕ} → Telling n rows exits g l₁ from shown d₀ l' at end d → at.steps < shown
      → shown ≤ g.terms.limit → shown ≤ (end_of rows exits g l).at.steps → Goes (job_of rows exits g l') (machine_of l' at)
  telling_goes {at = at} t h k m =
      made_here n rows exits g l₁ from shown d₀ t (omega arith) (rw (begun_run b rows exits g long) (omega arith))
