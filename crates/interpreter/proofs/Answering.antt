-- A call's answer, by whether it is refused.
--     answer_unknown, answer_wrong, answer_right, test_call    by the tests of the edition and of the table
--     run_refuses, run_finishes    what `run` answers and leaves is its outcome
--     record_refuses, record_finishes, recorded    the same of `run_history`
--     refuses, finishes            and the other way round: what its outcome says
--     status_some                  no status is 0
--     result-cells                 a result has as many numbers as its cells say
--     forever_refuses, forever_is  the answer of `determine_runs_forever`
-- Assumes nothing.
use mathlib.Core.Path.{◌≡◌, refl, sym, ap, ap₂, ◌∙◌}
use mathlib.Core.Bool.{Bool, true, false, cond}
use mathlib.Core.List.{List, [], ◌∷◌}
use Prim.Native.Nat.{ℕ}
use lib.ListN.{length, replicate}
use native.Mathlib.Omega.{arith}
use borrow.Author.Tests.{not-true, not-false}
use Rattle.base.specs.declared.edition.Edition.{Edition}
use Rattle.base.specs.declared.edition.Edition.TheVariants.{Rust}
use Rattle.base.specs.Edition.{unknown_edition, edition_of}
use Rattle.base.specs.Numbers.{Numbers, numbers, row, first, unless_refused}
use Rattle.base.proofs.Clash.{clash}
use Rattle.machine.specs.declared.Stop.{Stop}
use Rattle.machine.specs.declared.Stop.TheVariants.{Completed, MaxSteps, NeedsInput, StackFull, OutputFull, BadInput}
use Rattle.machine.specs.Machine.{Asks, given_of, status_of}
use Rattle.machine.specs.Held.{Slices}
use Rattle.machine.specs.Place.{start, End}
use Rattle.interpreter.specs.declared.Ended.{Ended}
use Rattle.std.specs.Prelude.{Result, Ok, Err}
use Rattle.base.specs.Refusal.{number_of_refusal}
use Rattle.base.specs.declared.refusal.Refusal.{Refusal}
use Rattle.base.specs.declared.refusal.Refusal.TheVariants.{Table}
use Rattle.base.proofs.RefusalLaws.{Placeless, refused_only, never_done, kept as kept_by}
use Rattle.interpreter.specs.Table.{wrong_table, valid_of, every}
use Rattle.interpreter.specs.Forever as Always
use Rattle.interpreter.specs.Outcome.{slices_of, ended_of, result_of, result_cells, refused, numbered, job_of, end_of, answer, Outcome}
use Rattle.interpreter.specs.History.{History}
use Rattle.interpreter.specs.Recorded.{taken_of, Recorded}
use Rattle.interpreter.proofs.Histories.{run_history}

pub result-cells : (e : Ended) → length (result_of e) ≡ result_cells
result-cells e = refl

pub status_some : (s : Stop) → status_of s ≡ 0 → ⊥
unfolding status_of
status_some Completed e = omega arith
status_some MaxSteps e = omega arith
status_some NeedsInput e = omega arith
status_some StackFull e = omega arith
status_some OutputFull e = omega arith
status_some BadInput e = omega arith

module _ (n : ℕ) (rows exits : List ℕ) (a : Asks) (l : Slices) where
  abbrev end : End
  end = end_of rows exits (given_of a) l

  -- the answer by the tests of the edition and of the table
  abbrev answered : Bool → Bool → Numbers
  answered unknown wrong = first (row unknown (refused 15) ∷ row wrong (refused 10) ∷ []) (numbers 0 (result_of (ended_of end)))

  abbrev edition : Edition
  edition = edition_of a.edition

  pub answer_unknown : unknown_edition a.edition ≡ true → answer n rows exits a l ≡ refused 15
  unfolding first
  answer_unknown u = ap (λ (t : Bool). answered t (wrong_table edition n rows exits)) u

  pub answer_wrong : unknown_edition a.edition ≡ false → valid_of edition n rows exits ≡ false → answer n rows exits a l ≡ refused 10
  unfolding first
  answer_wrong u v = ap₂ answered u (not-false (wrong_table edition n rows exits) v)

  pub answer_right : unknown_edition a.edition ≡ false → valid_of edition n rows exits ≡ true
      → answer n rows exits a l ≡ numbers 0 (result_of (ended_of end))
  unfolding first
  answer_right u v = ap₂ answered u (not-true (wrong_table edition n rows exits) v)

  -- what a call comes to: it is refused, or the edition is known and the table one of n regions
  pub data Tested : Type 0 where
    unknown : unknown_edition a.edition ≡ true → Tested
    wrong : unknown_edition a.edition ≡ false → valid_of edition n rows exits ≡ false → Tested
    right : unknown_edition a.edition ≡ false → valid_of edition n rows exits ≡ true → Tested

  pub test_call : Tested
  test_call = known (unknown_edition a.edition) refl
    where
      tested : unknown_edition a.edition ≡ false → (t : Bool) → valid_of edition n rows exits ≡ t → Tested
      tested u true v = right u v
      tested u false v = wrong u v

      known : (t : Bool) → unknown_edition a.edition ≡ t → Tested
      known true u = unknown u
      known false u = tested u (valid_of edition n rows exits) refl

  -- the slices by the answer
  abbrev left : Numbers → Slices
  left x = unless_refused x (slices_of l end.at.store) l

  pub run_refuses : (r : Refusal) → answer n rows exits a l ≡ refused (number_of_refusal r) → Outcome n rows exits a l (Err r) l
  unfolding numbered
  run_refuses r e = record { answers = sym e; ends = λ x h. clash cc; leaves = sym (ap left e ∙ kept_by r _ _ _) }

  pub run_finishes : {r : Ended} {l' : Slices} → answer n rows exits a l ≡ numbers 0 (result_of (ended_of end)) → r ≡ ended_of end
      → l' ≡ slices_of l end.at.store → Outcome n rows exits a l (Ok r) l'
  unfolding numbered
  run_finishes {r} e p q = record {
    answers = ap (λ (x : Ended). numbers 0 (result_of x)) p ∙ sym e;
    ends = λ x h. same h ∙ p;
    leaves = q ∙ sym (ap left e);
  }
    where
      same : {x : Ended} → ◌≡◌ {A = Result Ended Refusal} (Ok r) (Ok x) → x ≡ r
      same h = cc

  -- the same with the exits recorded
  module _ (taken : List ℕ) where
    -- the list of exits by the answer
    abbrev kept : List ℕ → Numbers → List ℕ
    kept ws x = unless_refused x (taken_of ws taken) taken

    pub record_refuses : (r : Refusal) → answer n rows exits a l ≡ refused (number_of_refusal r) → Recorded n rows exits a l taken (Err r) l taken
    record_refuses r e =
        let h = run_history (job_of rows exits (given_of a) l) a.limit start in
        record { run = run_refuses r e; history = h; leaves = sym (ap (kept h.exits) e ∙ kept_by r _ _ _) }

    pub record_finishes : {r : Ended} {l' : Slices} {taken' : List ℕ} (e : answer n rows exits a l ≡ numbers 0 (result_of (ended_of end)))
        → Outcome n rows exits a l (Ok r) l' → (h : History (job_of rows exits (given_of a) l) a.limit start end) → taken' ≡ taken_of h.exits taken
        → Recorded n rows exits a l taken (Ok r) l' taken'
    record_finishes e o h q = record { run = o; history = h; leaves = q ∙ sym (ap (kept h.exits) e) }

    -- what the list is by the history
    pub recorded : {r : Result Ended Refusal} {l' : Slices} {taken' : List ℕ} (o : Recorded n rows exits a l taken r l' taken')
        → answer n rows exits a l ≡ numbers 0 (result_of (ended_of end)) → taken' ≡ taken_of o.history.exits taken
    recorded o e = o.leaves ∙ ap (kept o.history.exits) e

  module _ {r : Result Ended Refusal} {l' : Slices} (o : Outcome n rows exits a l r l') where
    -- refusals of a run name no place
    pub refuses : (s : Refusal) → Placeless (number_of_refusal s) → answer n rows exits a l ≡ refused (number_of_refusal s) → (r ≡ Err s) × (l' ≡ l)
    unfolding numbered
    refuses s p e = (refused_only result_of (λ k. replicate result_cells 0) s _ p r (o.answers ∙ e), o.leaves ∙ ap left e ∙ kept_by s _ _ _)

    pub finishes : answer n rows exits a l ≡ numbers 0 (result_of (ended_of end)) → (r ≡ Ok (ended_of end)) × (l' ≡ slices_of l end.at.store)
    unfolding numbered
    finishes e = (named r refl (o.answers ∙ e), o.leaves ∙ ap left e)
      where
        named : (x : Result Ended Refusal) → r ≡ x → numbered x ≡ numbers 0 (result_of (ended_of end)) → x ≡ Ok (ended_of end)
        named (Err k) q h = absurd (never_done k _ _ h)
        named (Ok x) q h = ap Ok (o.ends x q)

module _ (n : ℕ) (rows exits : List ℕ) where
  abbrev judged : Bool → Bool → Numbers
  judged invalid all = first (row invalid (numbers 10 (0 ∷ [])) ∷ []) (numbers 0 (cond all 1 0 ∷ []))

  pub forever_refuses : valid_of Rust n rows exits ≡ false → Always.numbered (Err Table) ≡ Always.answer n rows exits
  unfolding first Always.numbered
  forever_refuses v = sym (ap (λ (t : Bool). judged t (every (Always.onward rows exits) n)) (not-false (wrong_table Rust n rows exits) v))

  pub forever_is : (t : Bool) → valid_of Rust n rows exits ≡ true → every (Always.onward rows exits) n ≡ t
      → Always.numbered (Ok t) ≡ Always.answer n rows exits
  unfolding first Always.numbered
  forever_is t v a = go t ∙ sym (ap₂ judged (not-true (wrong_table Rust n rows exits) v) a)
    where
      go : (t : Bool) → Always.numbered (Ok t) ≡ judged false t
      go true = refl
      go false = refl
