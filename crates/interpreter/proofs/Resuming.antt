-- A larger limit, and a run in two parts.
--     larger_limit            a larger limit tells nothing different of a run that stopped otherwise;
--     larger_limit_outcome    the same of a call, answer and every lent cell
--     run_on                  a run of a + b steps is a run of a steps and, where that came to MaxSteps, of b steps from there
--     resumes                 a run to the limit a that came to MaxSteps, resumed to the limit a + b, is the run to a + b;
--     resume_run, resume_on   the same of a call of `run` or `resume`, and a call of `resume`
-- Assumes nothing.
use mathlib.Core.Path.{subst, ◌≡◌, refl, sym, ap, ◌∙◌}
use mathlib.Core.List.{List}
use Prim.Native.Nat.{◌-◌, ◌≤◌, ℕ, zero, suc, ◌+◌}
use native.Mathlib.Omega.{arith}
use Rattle.base.specs.Numbers.{numbers, first, unless_refused}
use Rattle.machine.proofs.Only.{AsLong}
use Rattle.machine.specs.declared.Stop.{Stop}
use Rattle.machine.specs.declared.Stop.TheVariants.{Completed, MaxSteps, NeedsInput, StackFull, OutputFull, BadInput}
use Rattle.machine.specs.Machine.{Given, under_limit, Asks, asks, given_of}
use Rattle.machine.specs.Place.{Machine, End, start}
use Rattle.machine.specs.Held.{Slices}
use Rattle.interpreter.specs.declared.State.{State}
use Rattle.interpreter.specs.declared.Ended.{Ended}
use Rattle.interpreter.specs.Resume.{machine_of, Reaches, Resumed, Started}
use Rattle.interpreter.specs.Run.{Job, Went, goes, halts, step_of, after, run_of}
use Rattle.std.specs.Prelude.{Result}
use Rattle.base.specs.declared.refusal.Refusal.{Refusal}
use Rattle.interpreter.specs.declared.Ended.{Ended}
use Rattle.interpreter.specs.Outcome.{slices_of, ended_of, result_of, refusals, job_of, end_of, Outcome}
use Rattle.interpreter.proofs.RunLaws.{same_job}
use Rattle.interpreter.proofs.Histories.{never_max, at_limit, run_limit}

module _ (j : Job) where
  pub larger_limit : (k d : ℕ) (m : Machine) → ((run_of j k m).stop ≡ MaxSteps → ⊥) → run_of j (k + d) m ≡ run_of j k m
  unfolding run_of after
  larger_limit zero d m h = absurd (h refl)
  larger_limit (suc k) d m h = ap (λ (i : ℕ). run_of j i m) (suc_out k d) ∙ go (step_of j m) h (larger_limit k d)
    where
      suc_out : (k d : ℕ) → suc k + d ≡ suc (k + d)
      suc_out k d = omega arith

      go : (x : Went) → ((after (run_of j k) m x).stop ≡ MaxSteps → ⊥)
          → ((m' : Machine) → ((run_of j k m').stop ≡ MaxSteps → ⊥) → run_of j (k + d) m' ≡ run_of j k m')
          → after (run_of j (k + d)) m x ≡ after (run_of j k) m x
      go (goes m') h f = f m' h
      go (halts s) h f = refl

-- the same of a call: answer and every lent cell
pub larger_limit_outcome : (n : ℕ) (rows exits : List ℕ) (a : Asks) (d : ℕ) (l : Slices) {r : Result Ended Refusal} {l' : Slices}
    → ((end_of rows exits (given_of a) l).stop ≡ MaxSteps → ⊥) → Outcome n rows exits a l r l'
    → Outcome n rows exits (asks a.edition (a.limit + d) a.mode a.input) l r l'
larger_limit_outcome n rows exits a d l h o = record {
  answers = o.answers ∙ ap (λ (e : End). first (refusals a.edition n rows exits) (numbers 0 (result_of (ended_of e)))) same;
  ends = λ e q. o.ends e q ∙ ap ended_of same;
  leaves =
      o.leaves
      ∙ ap (λ (e : End). unless_refused (first (refusals a.edition n rows exits) (numbers 0 (result_of (ended_of e)))) (slices_of l e.at.store) l) same;
}
  where
    g : Given
    g = given_of a

    limit : ℕ
    limit = a.limit

    j : Job
    j = job_of rows exits g l

    same : end_of rows exits g l ≡ end_of rows exits (under_limit (limit + d) g) l
    same = sym (run_limit (limit + d) j (limit + d) start ∙ larger_limit j limit d start h)

unfoldable pub resumed_by : (Machine → End) → End → Stop → End
resumed_by onto e Completed = e
resumed_by onto e MaxSteps = onto e.at
resumed_by onto e NeedsInput = e
resumed_by onto e StackFull = e
resumed_by onto e OutputFull = e
resumed_by onto e BadInput = e

-- onward where it came to MaxSteps
abbrev pub resumed : (Machine → End) → End → End
resumed onto e = resumed_by onto e e.stop

other : (onto : Machine → End) (e : End) (s : Stop) → (s ≡ MaxSteps → ⊥) → e ≡ resumed_by onto e s
unfolding resumed_by
other onto e Completed h = refl
other onto e MaxSteps h = absurd (h refl)
other onto e NeedsInput h = refl
other onto e StackFull h = refl
other onto e OutputFull h = refl
other onto e BadInput h = refl

pub run_on : (j : Job) (a b : ℕ) (m : Machine) → run_of j (a + b) m ≡ resumed (run_of j b) (run_of j a m)
unfolding run_of after resumed_by
run_on j zero b m = ap (λ (i : ℕ). run_of j i m) (zero_out b)
  where
    zero_out : (b : ℕ) → 0 + b ≡ b
    zero_out b = omega arith
run_on j (suc a) b m = ap (λ (i : ℕ). run_of j i m) (suc_out a b) ∙ go (step_of j m) refl (run_on j a b)
  where
    suc_out : (k d : ℕ) → suc k + d ≡ suc (k + d)
    suc_out k d = omega arith

    go : (x : Went) → step_of j m ≡ x → ((m' : Machine) → run_of j (a + b) m' ≡ resumed (run_of j b) (run_of j a m'))
        → after (run_of j (a + b)) m x ≡ resumed (run_of j b) (after (run_of j a) m x)
    go (goes m') e f = f m'
    go (halts s) e f = other (run_of j b) (record { stop = s; at = m }) s (λ q. never_max j m (e ∙ ap halts q))

onto_max : (onto : Machine → End) (e : End) → e.stop ≡ MaxSteps → resumed onto e ≡ onto e.at
unfolding resumed_by
onto_max onto e q = ap (resumed_by onto e) q

-- `resume` from where `run` came to MaxSteps, to a larger limit
pub resumes : (j : Job) (a b : ℕ) → (run_of j a start).stop ≡ MaxSteps
    → run_of j (a + b - (run_of j a start).at.steps) (run_of j a start).at ≡ run_of j (a + b) start
resumes j a b e =
    ap (λ (k : ℕ). run_of j k (run_of j a start).at) (left (run_of j a start).at.steps (at_limit j a start e))
    ∙ sym (run_on j a b start ∙ onto_max (run_of j b) (run_of j a start) e)
  where
    left : (s : ℕ) → s ≡ 0 + a → a + b - s ≡ b
    left s q = omega arith

-- a call of `resume` from where a run of k steps came to MaxSteps, to the limit b, which allows d more
module _ (n : ℕ) (rows exits : List ℕ) (g : Given) (l : Slices) where
  together : (k d b : ℕ) (m : Machine) (l₁ l₂ : Slices) (r₁ r₂ : Ended) → m.steps + k + d ≡ b
      → AsLong l₁ l → Reaches n (run_of (job_of rows exits g l) k m) l₁ r₁ → r₁.stop ≡ MaxSteps
      → Resumed n rows exits (under_limit b g) l₁ r₁.at l₂ r₂ → Reaches n (run_of (job_of rows exits g l) (k + d) m) l₂ r₂
  together k d b m l₁ l₂ r₁ r₂ sum long p stop q = subst (λ (x : End). Reaches n x l₂ r₂) same q
    where
      j : Job
      j = job_of rows exits g l

      part : End
      part = run_of j k m

      at_max : part.stop ≡ MaxSteps
      at_max = sym p.stop ∙ stop

      left : (s : ℕ) → s ≡ m.steps + k → b - s ≡ d
      left s e = omega arith

      same : run_of (job_of rows exits (under_limit b g) l₁) (b - r₁.at.steps) (machine_of l₁ r₁.at) ≡ run_of j (k + d) m
      same =
          ap (λ (i : Job). run_of i (b - r₁.at.steps) (machine_of l₁ r₁.at)) (same_job rows exits (under_limit b g) {l = l₁} {l₀ = l} long)
          ∙ run_limit b j (b - r₁.at.steps) (machine_of l₁ r₁.at)
          ∙ ap (λ (x : Machine). run_of j (b - x.steps) x) p.at
          ∙ ap (λ (i : ℕ). run_of j i part.at) (left part.at.steps (at_limit j k m at_max))
          ∙ sym (run_on j k d m ∙ onto_max (run_of j d) part at_max)

  -- what a run to a limit reached, and what it reaches with this job
  under : (a k : ℕ) (m : Machine) {l' : Slices} {r : Ended} → Reaches n (run_of (job_of rows exits (under_limit a g) l) k m) l' r
      → Reaches n (run_of (job_of rows exits g l) k m) l' r
  under a k m {l'} {r} p = subst (λ (x : End). Reaches n x l' r) (run_limit a (job_of rows exits g l) k m) p

  over : (a k : ℕ) (m : Machine) {l' : Slices} {r : Ended} → Reaches n (run_of (job_of rows exits g l) k m) l' r
      → Reaches n (run_of (job_of rows exits (under_limit a g) l) k m) l' r
  over a k m {l'} {r} p = subst (λ (x : End). Reaches n x l' r) (sym (run_limit a (job_of rows exits g l) k m)) p

  -- a run to the limit a that came to MaxSteps, and then a call of `resume` to b: together they keep the promise of a run to b
  pub resume_run : (a b : ℕ) (l₁ l₂ : Slices) (r₁ r₂ : Ended) → a ≤ b → AsLong l₁ l
      → Started n rows exits (under_limit a g) l l₁ r₁ → r₁.stop ≡ MaxSteps
      → Resumed n rows exits (under_limit b g) l₁ r₁.at l₂ r₂ → Started n rows exits (under_limit b g) l l₂ r₂
  resume_run a b l₁ l₂ r₁ r₂ h long p stop q =
      over b b start
      (subst (λ (k : ℕ). Reaches n (run_of (job_of rows exits g l) k start) l₂ r₂) (parts a b h)
      (together a (b - a) b start l₁ l₂ r₁ r₂ (sum a b h) long (under a a start p) stop q))
    where
      parts : (a b : ℕ) → a ≤ b → a + (b - a) ≡ b
      parts a b h = omega arith

      sum : (a b : ℕ) → a ≤ b → 0 + a + (b - a) ≡ b
      sum a b h = omega arith

  -- the same of two calls of `resume`
  pub resume_on : (a b : ℕ) (l₁ l₂ : Slices) (from : State) (r₁ r₂ : Ended) → from.steps ≤ a → a ≤ b → AsLong l₁ l
      → Resumed n rows exits (under_limit a g) l from l₁ r₁ → r₁.stop ≡ MaxSteps
      → Resumed n rows exits (under_limit b g) l₁ r₁.at l₂ r₂ → Resumed n rows exits (under_limit b g) l from l₂ r₂
  resume_on a b l₁ l₂ from r₁ r₂ f h long p stop q =
      over b (b - from.steps) (machine_of l from)
      (subst (λ (k : ℕ). Reaches n (run_of (job_of rows exits g l) k (machine_of l from)) l₂ r₂) (parts from.steps f)
      (together (a - from.steps) (b - a) b (machine_of l from) l₁ l₂ r₁ r₂ (whole from.steps f) long
      (under a (a - from.steps) (machine_of l from) p) stop q))
    where
      parts : (s : ℕ) → s ≤ a → (a - s) + (b - a) ≡ b - s
      parts s f = omega arith

      whole : (s : ℕ) → s ≤ a → s + (a - s) + (b - a) ≡ b
      whole s f = omega arith
