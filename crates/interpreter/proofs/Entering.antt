-- The regions that a run enters over a table that is not refused.
--     entered_below    all are regions of the table
-- Assumes nothing.
use mathlib.Core.Path.{sym, subst}
use mathlib.Core.List.{List, map}
use Prim.Native.Nat.{ℕ, ◌<◌}
use native.Mathlib.Omega.{arith}
use Rattle.base.proofs.CountingLaws.{Below, none, more}
use Rattle.flow.specs.Pointer.{Valid}
use Rattle.flow.proofs.Order.{valid_number}
use Rattle.machine.specs.Machine.{with_pointers}
use Rattle.machine.specs.Place.{Machine}
use Rattle.machine.proofs.Fitting.{fit_kept}
use Rattle.machine.proofs.Facing.{exec_facing}
use Rattle.table.specs.Layout.{size_of}
use Rattle.table.specs.ExitNumber.{target_of, state_of}
use Rattle.interpreter.specs.Table.{pointers_of, op_of, Good}
use Rattle.interpreter.specs.Run.{Job, exit_from, effect_of}
use Rattle.interpreter.specs.History.{Passes, stays, passes, regions_of}
use Rattle.interpreter.proofs.Histories.{Kept, step_kept}
use Rattle.interpreter.proofs.StepLaws.{inside_exit}

module _ {n : ℕ} (j : Job) (G : Good n j.rows j.exits) where
  -- after a step the pointers are a state
  kept_valid : {m m' : Machine} → Kept j m m' → Valid m'.store.pointers
  kept_valid {m} k =
      let w = exit_from j m in
      exec_facing j.given (size_of j.rows m.region) (op_of w) (with_pointers (pointers_of w) m.store) (valid_number (state_of w) (omega arith))
      (fit_kept j.room (effect_of j w m) k.store)

  targets_below : {m m' : Machine} {ws : List ℕ} → Passes j m ws m' → m.region < n → Valid m.store.pointers → Below n (map target_of ws)
  targets_below stays h v = none
  targets_below {m} (passes {m' = a} s p) h v =
      let k = step_kept j m a s in
      let t = inside_exit G m.region m.store.pointers v h in
      more t (targets_below p (subst (λ (r : ℕ). r < n) (sym k.region) t) (kept_valid k))

  pub entered_below : {m m' : Machine} {ws : List ℕ} → Passes j m ws m' → m.region < n → Valid m.store.pointers → Below n (regions_of m ws)
  entered_below p h v = more h (targets_below p h v)
