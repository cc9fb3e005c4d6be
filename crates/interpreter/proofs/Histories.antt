-- The history of a run.
--     run_history      a run comes to its end by a list of exits that is as long as the steps made
--     history_only     so many exits from one place are one list, and lead to one place
--     histories_same   a run has one history
--     history_more     one step more
--     history_skips    of each reason as many number lines are counted as its steps skipped for it
--     run_few          and all in all no more than steps were made
--     step_judged, run_judged    reading stands where it may after a step, and after a run (rule 16.4)
--     bad_input_first  a run stops for BadInput only at the first read of a line
--     history_ends     where they lead is the last of the regions entered
--     never_max        a step never halts with MaxSteps
--     at_limit         MaxSteps comes exactly at the limit
--     run_limit        what is given as the limit is not looked at on the way
-- Assumes nothing.
use mathlib.Core.Path.{◌≡◌, refl, sym, ap, subst, ◌∙◌}
use mathlib.Core.Bool.{Bool, true, false, cond}
use mathlib.Core.Logic.{◌⊎◌, inl, inr}
use mathlib.Core.List.{List, [], ◌∷◌, ◌++◌, map}
use Prim.Native.Nat.{ℕ, zero, suc, ◌+◌, ◌<◌, ◌≤◌}
use native.Mathlib.Omega.{arith}
use lib.ListN.{length, get_or}
use Rattle.base.proofs.Clash.{clash}
use Rattle.machine.specs.declared.Stop.{Stop}
use Rattle.machine.specs.declared.Stop.TheVariants.{Completed, MaxSteps, NeedsInput, BadInput}
use Rattle.text.specs.declared.number.Reason.{Reason}
use Rattle.text.specs.Input.{within_line}
use Rattle.text.proofs.Judging.{judged_start}
use Rattle.machine.specs.Counts.{count_of, total, times}
use Rattle.machine.specs.Machine.{under_limit, JudgedIn, Out, keeps, stops, fitting, with_pointers}
use Rattle.machine.specs.Skipped.{skipped}
use Rattle.machine.specs.Place.{Machine, start, End}
use Rattle.machine.proofs.Fitting.{fit_kept, fit_stops, fit_bad, not_limit, exec_limit}
use Rattle.machine.proofs.Skipping.{exec_counts, exec_total, skipped_same, times_append}
use Rattle.machine.proofs.Judging.{exec_judged, exec_bad_first}
use Rattle.table.specs.ExitNumber.{target_of}
use Rattle.table.specs.Layout.{size_of}
use Rattle.interpreter.specs.Table.{pointers_of, op_of, ends}
use Rattle.interpreter.specs.Run.{Job, Went, goes, halts, arrive, exit_from, effect_of, through, leave, step_of, after, run_of, ran}
use Rattle.interpreter.specs.History.{Passes, stays, passes, reasons_of, History, regions_of}

-- what a step that is taken came to
pub record Kept (j : Job) (m m' : Machine) : Type 0 where
  pub unawaited : m.store.reading.awaiting ≡ false
  pub some : ends (exit_from j m) ≡ false
  pub store : fitting j.room (effect_of j (exit_from j m) m) ≡ keeps m'.store
  pub region : m'.region ≡ target_of (exit_from j m)
  pub counted : m'.steps ≡ m.steps + 1

-- and one that is not: input is awaited, there is no exit to go through, or the instruction is not kept
pub data Halts (j : Job) (m : Machine) : Stop → Type 0 where
  awaits : m.store.reading.awaiting ≡ true → Halts j m NeedsInput
  over : m.store.reading.awaiting ≡ false → ends (exit_from j m) ≡ true → Halts j m Completed
  barred : {s : Stop} → m.store.reading.awaiting ≡ false → ends (exit_from j m) ≡ false
      → fitting j.room (effect_of j (exit_from j m) m) ≡ stops s → Halts j m s

pub data Stepped (j : Job) (m : Machine) : Went → Type 0 where
  kept : {m' : Machine} → Kept j m m' → Stepped j m (goes m')
  halted : {s : Stop} → Halts j m s → Stepped j m (halts s)

module _ (j : Job) where
  arrived : (m : Machine) → m.store.reading.awaiting ≡ false → ends (exit_from j m) ≡ false
      → (o : Out) → fitting j.room (effect_of j (exit_from j m) m) ≡ o → Stepped j m (arrive (exit_from j m) m o)
  unfolding arrive
  arrived m a q (keeps s) e = kept (record { unawaited = a; some = q; store = e; region = refl; counted = refl })
  arrived m a q (stops s) e = halted (barred a q e)

  -- a step by its cases
  pub step_cases : (m : Machine) → Stepped j m (step_of j m)
  step_cases m = waits m.store.reading.awaiting refl
    where
      opens : m.store.reading.awaiting ≡ false → (t : Bool) → ends (exit_from j m) ≡ t
          → Stepped j m (cond t (halts Completed) (through j (exit_from j m) m))
      opens a true q = halted (over a q)
      opens a false q = arrived m a q (fitting j.room (effect_of j (exit_from j m) m)) refl

      waits : (t : Bool) → m.store.reading.awaiting ≡ t → Stepped j m (cond t (halts NeedsInput) (leave j (exit_from j m) m))
      waits true a = halted (awaits a)
      waits false a = opens a (ends (exit_from j m)) refl

  pub step_kept : (m m' : Machine) → step_of j m ≡ goes m' → Kept j m m'
  step_kept m m' e = go (step_of j m) (step_cases m) e
    where
      go : (x : Went) → Stepped j m x → x ≡ goes m' → Kept j m m'
      go (goes n) (kept k) e = let z : n ≡ m' = cc in subst (Kept j m) z k
      go (halts s) (halted h) e = clash cc

  pub step_halts : (m : Machine) {s : Stop} → step_of j m ≡ halts s → Halts j m s
  step_halts m {s} e = go (step_of j m) (step_cases m) e
    where
      go : (x : Went) → Stepped j m x → x ≡ halts s → Halts j m s
      go (goes n) (kept k) e = clash cc
      go (halts t) (halted h) e = let z : t ≡ s = cc in subst (Halts j m) z h

  pub never_max : (m : Machine) → step_of j m ≡ halts MaxSteps → ⊥
  never_max m e = go (step_halts m e) refl
    where
      go : {s : Stop} → Halts j m s → s ≡ MaxSteps → ⊥
      go (awaits a) q = clash cc
      go (over a b) q = clash cc
      go (barred a b k) q = not_limit (fit_stops j.room (effect_of j (exit_from j m) m) k) q

  -- the counts after a step that is kept, and after all of a history
  step_skips : (m m' : Machine) → step_of j m ≡ goes m' → (why : Reason)
      → count_of why m'.store.reading.skips
      ≡ count_of why m.store.reading.skips + times why (skipped j.given (op_of (exit_from j m)) m.store)
  step_skips m m' e why =
      let w = exit_from j m in
      let k = step_kept m m' e in
      exec_counts j.given (size_of j.rows m.region) (op_of w) (with_pointers (pointers_of w) m.store)
      (fit_kept j.room (effect_of j w m) k.store) why
      ∙ ap (λ (ws : List Reason). count_of why m.store.reading.skips + times why ws) (skipped_same j.given (op_of w) (pointers_of w) m.store)

  pub history_skips : {m m' : Machine} {ws : List ℕ} (p : Passes j m ws m') (why : Reason)
      → count_of why m'.store.reading.skips ≡ count_of why m.store.reading.skips + times why (reasons_of j p)
  unfolding reasons_of times
  history_skips stays why = omega arith
  history_skips {m} (passes {m' = a} s p) why =
      omega (
        arith,
        step_skips m a s why,
        history_skips p why,
        times_append why (skipped j.given (op_of (exit_from j m)) m.store) (reasons_of j p),
      )

  pub run_history : (k : ℕ) (m : Machine) → History j k m (run_of j k m)
  unfolding run_of after
  run_history zero m = record { exits = []; passes = stays; counted = omega arith; skips = history_skips stays; within = omega arith; why = inl (refl, refl) }
  run_history (suc k) m = go (step_of j m) refl (run_history k)
    where
      longer : {s : Stop} (m' : Machine) (c : ℕ)
          → ((s ≡ MaxSteps) × (c ≡ k)) ⊎ ((step_of j m' ≡ halts s) × (c < k))
          → ((s ≡ MaxSteps) × (suc c ≡ suc k)) ⊎ ((step_of j m' ≡ halts s) × (suc c < suc k))
      longer m' c (inl p) = inl (p.0, ap suc p.1)
      longer m' c (inr p) = inr (p.0, omega (arith, p.1))

      go : (x : Went) → step_of j m ≡ x → ((m' : Machine) → History j k m' (run_of j k m')) → History j (suc k) m (after (run_of j k) m x)
      go (goes m') e f =
          let r = f m' in
          record {
            exits = exit_from j m ∷ r.exits;
            passes = passes e r.passes;
            counted = omega (arith, r.counted, (step_kept m m' e).counted);
            skips = history_skips (passes e r.passes);
            within = omega (arith, r.within);
            why = longer (run_of j k m').at (length r.exits) r.why;
          }
      go (halts s) e f = record { exits = []; passes = stays; counted = omega arith; skips = history_skips stays; within = omega arith; why = inr (e, omega arith) }

  step_few : (m m' : Machine) → step_of j m ≡ goes m' → total m'.store.reading.skips ≤ total m.store.reading.skips + 1
  step_few m m' e =
      let w = exit_from j m in
      exec_total j.given (size_of j.rows m.region) (op_of w) (with_pointers (pointers_of w) m.store)
      (fit_kept j.room (effect_of j w m) (step_kept m m' e).store)

  history_few : {m m' : Machine} {ws : List ℕ} → Passes j m ws m'
      → total m'.store.reading.skips ≤ total m.store.reading.skips + length ws
  history_few stays = omega arith
  history_few {m} (passes {m' = a} s p) = omega (arith, step_few m a s, history_few p)

  pub run_few : total (ran j).at.store.reading.skips ≤ (ran j).at.steps
  run_few =
      let h = run_history j.given.terms.limit start in
      omega (arith, history_few h.passes, h.counted)

  pub step_judged : (m m' : Machine) → step_of j m ≡ goes m' → JudgedIn j.given m.store.reading → JudgedIn j.given m'.store.reading
  step_judged m m' e h =
      let w = exit_from j m in
      exec_judged j.given (size_of j.rows m.region) (op_of w) (with_pointers (pointers_of w) m.store) h
      (fit_kept j.room (effect_of j w m) (step_kept m m' e).store)

  history_judged : {m m' : Machine} {ws : List ℕ} → Passes j m ws m' → JudgedIn j.given m.store.reading
      → JudgedIn j.given m'.store.reading
  history_judged stays h = h
  history_judged {m} (passes {m' = a} s p) h = history_judged p (step_judged m a s h)

  pub run_judged : (k : ℕ) (m : Machine) → JudgedIn j.given m.store.reading → JudgedIn j.given (run_of j k m).at.store.reading
  run_judged k m h = history_judged (run_history k m).passes h

  -- a step that stops for BadInput was the first read of a line
  step_bad_first : (m : Machine) → step_of j m ≡ halts BadInput → JudgedIn j.given m.store.reading
      → within_line j.given.input m.store.reading.used ≡ false
  step_bad_first m e h = go (step_halts m e) refl
    where
      w : ℕ
      w = exit_from j m

      go : {s : Stop} → Halts j m s → s ≡ BadInput → within_line j.given.input m.store.reading.used ≡ false
      go (awaits a) q = clash cc
      go (over a b) q = clash cc
      go (barred a b k) q =
          exec_bad_first j.given (size_of j.rows m.region) (op_of w) (with_pointers (pointers_of w) m.store) h
          (fit_bad j.room (effect_of j w m) (k ∙ ap stops q))

  pub bad_input_first : (ran j).stop ≡ BadInput → within_line j.given.input (ran j).at.store.reading.used ≡ false
  bad_input_first e = let r = run_history limit start in go r.why
    where
      limit : ℕ
      limit = j.given.terms.limit

      go : {c : ℕ} → (((ran j).stop ≡ MaxSteps) × (c ≡ limit)) ⊎ ((step_of j (ran j).at ≡ halts (ran j).stop) × (c < limit))
          → within_line j.given.input (ran j).at.store.reading.used ≡ false
      go (inl p) = let z : BadInput ≡ MaxSteps = sym e ∙ p.0 in clash cc
      go (inr p) =
          step_bad_first (ran j).at (p.0 ∙ ap halts e)
          (run_judged limit start (judged_start j.given.terms.edition j.given.input))

  pub history_only : {m m' m'' : Machine} {ws ws' : List ℕ} → Passes j m ws m' → Passes j m ws' m'' → length ws ≡ length ws'
      → (ws ≡ ws') × (m' ≡ m'')
  history_only stays stays e = (refl, refl)
  history_only stays (passes s p) e = absurd (omega arith)
  history_only (passes s p) stays e = absurd (omega arith)
  history_only {m} {m'' = m''} (passes {m' = a} s p) (passes {m' = b} {exits = ws'} s' p') e =
      let g : goes a ≡ goes b = sym s ∙ s' in
      let z : a ≡ b = cc in
      let r = history_only p (subst (λ (x : Machine). Passes j x ws' m'') (sym z) p') (omega arith) in
      (ap (λ (x : List ℕ). exit_from j m ∷ x) r.0, r.1)

  pub histories_same : {k : ℕ} {m : Machine} {e : End} (h h' : History j k m e) → h.exits ≡ h'.exits
  histories_same h h' = (history_only h.passes h'.passes (omega (arith, h.counted, h'.counted))).0

  pub history_more : {m m' m'' : Machine} {ws : List ℕ} → Passes j m ws m' → step_of j m' ≡ goes m'' → Passes j m (ws ++ (exit_from j m' ∷ [])) m''
  history_more stays e = passes e stays
  history_more (passes s p) e = passes s (history_more p e)

  pub history_ends : {m m' : Machine} {ws : List ℕ} → Passes j m ws m' → m'.region ≡ get_or (regions_of m ws) (length ws) 0
  history_ends stays = refl
  history_ends {m} (passes {m' = a} {exits = ws} s p) =
      history_ends p ∙ ap (λ (r : ℕ). get_or (r ∷ map target_of ws) (length ws) 0) (step_kept m a s).region

  -- MaxSteps comes at the limit
  pub at_limit : (k : ℕ) (m : Machine) → (run_of j k m).stop ≡ MaxSteps → (run_of j k m).at.steps ≡ m.steps + k
  at_limit k m e = let h = run_history k m in go h h.why
    where
      go : (h : History j k m (run_of j k m))
          → (((run_of j k m).stop ≡ MaxSteps) × (length h.exits ≡ k)) ⊎ ((step_of j (run_of j k m).at ≡ halts (run_of j k m).stop) × (length h.exits < k))
          → (run_of j k m).at.steps ≡ m.steps + k
      go h (inl p) = omega (arith, h.counted, p.1)
      go h (inr p) = absurd (never_max (run_of j k m).at (p.0 ∙ ap halts e))

-- the same run under another limit
abbrev pub job_under : ℕ → Job → Job
job_under k j = record { rows = j.rows; exits = j.exits; given = under_limit k j.given; room = j.room }

module _ (l : ℕ) (j : Job) where
  step_limit : (m : Machine) → step_of (job_under l j) m ≡ step_of j m
  step_limit m = rw exec_limit refl

  pub run_limit : (k : ℕ) (m : Machine) → run_of (job_under l j) k m ≡ run_of j k m
  unfolding run_of after
  run_limit zero m = refl
  run_limit (suc k) m = ap (after (run_of (job_under l j) k) m) (step_limit m) ∙ go (step_of j m) (run_limit k)
    where
      go : (x : Went) → ((m' : Machine) → run_of (job_under l j) k m' ≡ run_of j k m') → after (run_of (job_under l j) k) m x ≡ after (run_of j k) m x
      go (goes m') f = f m'
      go (halts s) f = refl
