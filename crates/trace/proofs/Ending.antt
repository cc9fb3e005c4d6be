-- A run that is told to its end: its first moves can be told, what is told of its end is the end, and what all of it writes. Assumes
-- nothing.
use mathlib.Core.Path.{◌≡◌, refl, sym, ap, subst, ◌∙◌}
use mathlib.Core.List.{List, ◌++◌}
use Prim.Native.Nat.{ℕ, min, ◌+◌, ◌-◌, ◌*◌, ◌≤◌}
use native.Mathlib.Omega.{arith}
use lib.ListN.{length}
use Rattle.machine.specs.Machine.{Given, Store}
use Rattle.machine.specs.Place.{start, End}
use Rattle.machine.specs.Held.{Slices, store_of}
use Rattle.machine.proofs.Only.{AsLong}
use Rattle.interpreter.specs.declared.Ended.{Ended}
use Rattle.interpreter.specs.Run.{Job, ran}
use Rattle.interpreter.specs.Outcome.{job_of, end_of, slices_of, core_of}
use Rattle.interpreter.proofs.Histories.{run_history}
use Rattle.interpreter.proofs.RunLaws.{same_job}
use Rattle.report.specs.Wrote.{Wrote}
use Rattle.report.proofs.Writing.{wrote_then}
use Rattle.answer.specs.Printing.{label_in}
use Rattle.answer.proofs.Slices.{stack_back, stack_few, outs_back, outs_few}
use Rattle.telling.specs.Ending.{hidden_text, end_lines}
use Rattle.telling.specs.Bounds.{Inside}
use Rattle.trace.specs.Trace.{most_lines}
use Rattle.trace.specs.Told.{Told, Tellable, Tells, Endable, Ends}

-- a store, read back from the slices that hold it
store_back : (l : Slices) (s : Store) → store_of (slices_of l s) (core_of s) ≡ s
store_back l s =
    let a = stack_back (length l.stack) s.stack in
    let b = outs_back (length l.kinds) (length l.values) s.outs in
    λ i. record { pointers = s.pointers; stack = a i; outs = b i; reading = s.reading }

-- of so many moves all but the first have no line
without_line : (moves : ℕ) → moves - min most_lines moves ≡ moves - most_lines
without_line moves = omega arith

module _ {n : ℕ} {rows exits : List ℕ} {g : Given} {l : Slices} {e : Ended} {room : ℕ} (E : Endable n rows exits g l e room) where
  abbrev end : End
  end = end_of rows exits g l

  steps_are : e.at.steps ≡ end.at.steps
  steps_are = ap (λ (x : Ended). x.at.steps) E.ended

  -- the first moves, in slices of the same length
  pub tellable : {l' : Slices} → AsLong l' l → Tellable n rows exits g l' room (min most_lines e.at.steps)
  tellable {l'} long =
      let h = run_history (job_of rows exits g l) g.terms.limit start in
      let same : (end_of rows exits g l').at.steps ≡ end.at.steps = ap (λ (j : Job). (ran j).at.steps) (same_job rows exits g {l = l'} {l₀ = l} long) in
      record {
        labelled = E.labelled;
        few = omega arith;
        made = omega (arith, steps_are, same);
        within = omega (arith, steps_are, h.counted, h.within);
        roomy = omega (arith, E.roomy);
      }

  deep : e.at.core.depth ≤ length l.stack
  deep =
      let z : e.at.core.depth ≡ length end.at.store.stack = ap (λ (x : Ended). x.at.core.depth) E.ended in
      omega (arith, z, stack_few (length l.stack) end.at.store.stack (sym (ap (λ (x : Slices). length x.stack) E.left)))

  pub few : e.at.core.outputs ≤ length l.kinds
  few =
      let z : e.at.core.outputs ≡ length end.at.store.outs = ap (λ (x : Ended). x.at.core.outputs) E.ended in
      omega (arith, z, outs_few (length l.kinds) end.at.store.outs (sym (ap (λ (x : Slices). length x.kinds) E.left)))

  pub inside : Inside e.at.core (length l.stack) (length l.kinds) (length l.values)
  inside = record { deep = deep; told = few; given = omega (arith, few, E.sized.1, E.sized.2); valid = E.valid }

  -- the end's text
  end_is : end_lines e.stop e.at.steps (label_in rows e.at.region) (store_of l e.at.core)
      ≡ end_lines end.stop end.at.steps (label_in rows end.at.region) end.at.store
  end_is =
      ap (λ (x : Ended). end_lines x.stop x.at.steps (label_in rows x.at.region) (store_of l x.at.core)) E.ended
      ∙ ap (end_lines end.stop end.at.steps (label_in rows end.at.region))
      (ap (λ (x : Slices). store_of x (core_of end.at.store)) E.left ∙ store_back l end.at.store)

  -- the three parts, one after the other
  pub ends : {l' : Slices} → AsLong l' l → {d d₁ d₂ d₃ : List ℕ} {r₁ r₂ r₃ shown : ℕ} → length d ≡ room → shown ≡ min most_lines e.at.steps
      → Tells rows exits g l' shown d r₁ d₁ → Wrote d₁ r₁ (hidden_text (e.at.steps - shown)) r₂ d₂ 56
      → Wrote d₂ r₂ (end_lines e.stop e.at.steps (label_in rows e.at.region) (store_of l e.at.core)) r₃ d₃ 6000
      → Ends rows exits g l d r₃ d₃
  ends {l'} long {d₁ = d₁} {d₂} {r₁ = r₁} {r₂} {shown = shown} size most t h p =
      let hidden : e.at.steps - shown ≡ end.at.steps - most_lines = omega (arith, most, steps_are, without_line e.at.steps) in
      let front = t.text in
      let last = end_lines end.stop end.at.steps (label_in rows end.at.region) end.at.store in
      record {
        at = t.at;
        lines = front;
        told = subst (λ (j : Job). Told j t.at front) (same_job rows exits g {l = l'} {l₀ = l} long) t.told;
        steps = t.steps ∙ most ∙ ap (min most_lines) steps_are;
        text = front ++ hidden_text (end.at.steps - most_lines) ++ last;
        is = refl;
        most = 512 * shown + 56 + 6000;
        wrote =
            wrote_then
            (wrote_then t.wrote (rw hidden at h) (omega (arith, E.roomy, most)))
            (rw end_is at p)
            (omega (arith, E.roomy, most));
      }
