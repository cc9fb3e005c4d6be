-- One step, by what its exit and its instruction came to. Assumes nothing.
use mathlib.Core.Path.{◌≡◌, refl, sym, ap, subst, ◌∙◌}
use mathlib.Core.Bool.{Bool, true, false, cond}
use mathlib.Core.List.{List}
use Prim.Native.Nat.{ℕ, zero, suc, ◌+◌, ◌<◌, ◌≤◌}
use native.Mathlib.Omega.{arith}
use borrow.Author.Tests.{eqb-false}
use lib.Dec.{eqb}
use Rattle.base.proofs.Tests.{neither}
use Rattle.flow.specs.declared.PointerState.{PointerState}
use Rattle.flow.specs.Pointer.{Valid, of_number, state_number, attempt_of}
use Rattle.flow.proofs.Order.{valid_number, valid_attempt}
use Rattle.machine.specs.declared.Core.{Core}
use Rattle.std.specs.Prelude.{Ok, Err}
use Rattle.machine.specs.declared.Stop.{Stop}
use Rattle.machine.specs.declared.Stop.TheVariants.{NeedsInput, Completed}
use Rattle.machine.specs.Machine.{Given, exec}
use Rattle.machine.specs.Counts.{total}
use Rattle.machine.specs.Held.{Slices, room_of, store_of, Stands, out_of, After as Left, Execs, at_pointers}
use Rattle.machine.proofs.Fitting.{fit_kept}
use Rattle.machine.proofs.Skipping.{exec_total}
use Rattle.interpreter.specs.Table.{pointers_of, op_of, tried, open_from, exit_of, ends, Good}
use Rattle.table.specs.Layout.{size_of}
use Rattle.interpreter.specs.Run.{arrive, exit_from, through, step_of}
use Rattle.interpreter.specs.Outcome.{job_of}
use Rattle.interpreter.specs.Resume.{machine_of}
use Rattle.interpreter.specs.Moving.{next_of, After, Steps}
use Rattle.interpreter.specs.declared.State.{State}
use Rattle.interpreter.specs.declared.stepping.Moved.{Moved}
use Rattle.std.specs.Prelude.{Result, Ok, Err}
use Rattle.table.specs.ExitNumber.{target_of, lost_slide}

-- the pointers of an exit are a state
pub stands_in : (l : Slices) (at : Core) (s : ℕ) → Stands l at → s < 8 → Stands l (at_pointers (of_number s) at)
stands_in l at s h k = record { lies = h.lies; holds = h.holds; valid = valid_number s k }

module _ (rows exits : List ℕ) (g : Given) (n : ℕ) (l : Slices) (at : State) where
  module _ (w : ℕ) (l' : Slices) where
    pub moved : (next : Core)
        → Execs (exec g (size_of rows at.region) (op_of w)) l (at_pointers (pointers_of w) at.core) l' (Ok next)
        → target_of w < n → total at.core.reading.skips ≤ at.steps
        → Steps (through (job_of rows exits g l) w (machine_of l at)) w n l at l'
        (Ok (record { next = record { region = target_of w; steps = at.steps + 1; core = next }; by = w }))
    unfolding out_of Left arrive next_of After
    moved next x t few =
        record { is = ap (arrive w (machine_of l at)) x.is; leaves = (record { stands = x.leaves; inside = t; few = omega (arith, one_more) }, refl, refl) }
      where
        one_more : total next.reading.skips ≤ total at.core.reading.skips + 1
        one_more = exec_total g (size_of rows at.region) (op_of w) (store_of l (at_pointers (pointers_of w) at.core)) (fit_kept (room_of l) _ (sym x.is))

    pub halted : (s : Stop)
        → Execs (exec g (size_of rows at.region) (op_of w)) l (at_pointers (pointers_of w) at.core) l' (Err s)
        → Steps (through (job_of rows exits g l) w (machine_of l at)) w n l at l' (Err s)
    unfolding out_of Left arrive next_of After
    halted s x = record { is = ap (arrive w (machine_of l at)) x.is; leaves = x.leaves }

  pub needs_input : at.core.reading.awaiting ≡ true
      → Steps (step_of (job_of rows exits g l) (machine_of l at)) (exit_from (job_of rows exits g l) (machine_of l at)) n l at l (Err NeedsInput)
  unfolding next_of After
  needs_input e = record { is = rw e refl; leaves = refl }

  module _ (e : at.core.reading.awaiting ≡ false) (w : ℕ) (hw : w ≡ exit_of exits at.region at.core.pointers) where
    pub completed : ends w ≡ true → Steps (step_of (job_of rows exits g l) (machine_of l at)) (exit_from (job_of rows exits g l) (machine_of l at)) n l at l (Err Completed)
    unfolding next_of After
    completed z = record { is = rw (e, ← hw, z) refl; leaves = refl }

    pub taken : (l' : Slices) (r : Result Moved Stop) → ends w ≡ false
        → Steps (through (job_of rows exits g l) w (machine_of l at)) w n l at l' r
        → Steps (step_of (job_of rows exits g l) (machine_of l at)) (exit_from (job_of rows exits g l) (machine_of l at)) n l at l' r
    taken l' r z x = record { is = x.is ∙ sym (rw (e, ← hw, z) refl); leaves = subst (λ (y : ℕ). After y n l at l' r) hw x.leaves }

-- an exit to go through is not 0
pub some_exit : (w : ℕ) → ends w ≡ false → 0 < w
some_exit w h =
    let z : w ≡ 0 → ⊥ = eqb-false w 0 (neither (eqb w 0) (eqb w lost_slide) h).0 in
    omega (arith, z)

-- the exit that a run comes to leads to a region of the table
either : (P : ℕ → Type 0) (t : Bool) (x y : ℕ) → P x → P y → P (cond t x y)
either P true x y p q = p
either P false x y p q = q

attempt_below : (p : PointerState) (k : ℕ) → Valid p → state_number (attempt_of p k) < 8
attempt_below p k v =
    let h = valid_attempt p k v in
    omega (arith, h.dp, h.cc)

inside_from : {n : ℕ} {rows exits : List ℕ} → Good n rows exits → (region : ℕ) (p : PointerState) → Valid p → (j k : ℕ)
    → region < n → target_of (open_from exits region p j k) < n
unfolding open_from
inside_from g region p v zero k h = g.some
inside_from {n} {exits = exits} g region p v (suc j) k h =
    either (λ x. target_of x < n) (eqb (tried exits region p k) 0) (open_from exits region p j (suc k)) (tried exits region p k)
    (inside_from g region p v j (suc k) h)
    (g.leads region (state_number (attempt_of p k)) h (attempt_below p k v))

pub inside_exit : {n : ℕ} {rows exits : List ℕ} → Good n rows exits → (region : ℕ) (p : PointerState) → Valid p
    → region < n → target_of (exit_of exits region p) < n
inside_exit g region p v h = inside_from g region p v 8 0 h
