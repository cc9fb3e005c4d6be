-- Inner: what the parts of a run promise: `begin`, and of a step `go_through` and `step`. Assumes nothing.
use Rattle.std.specs.Prelude.{◌≡◌, List, ℕ, ◌+◌, Result, Ok, Err}
use Rattle.machine.specs.Machine.{Given}
use Rattle.machine.specs.Place.{start}
use Rattle.machine.specs.Held.{Slices}
use Rattle.interpreter.specs.declared.State.{State}
use Rattle.interpreter.specs.declared.stepping.Moved.{Moved}
use Rattle.machine.specs.declared.Stop.{Stop}
use Rattle.interpreter.specs.Run.{Went, goes, halts, exit_from, through, step_of}
use Rattle.interpreter.specs.Outcome.{slices_of, place_of, job_of}
use Rattle.interpreter.specs.Resume.{machine_of, Placed}

-- the place where a run begins, and cleared slices (rules 8.1, 8.6)
pub record Begun (l l' : Slices) (from : State) : Type 0 where
  pub at : from ≡ place_of start
  pub leaves : l' ≡ slices_of l start.store

-- what a step came to, by what the slices hold after it
unfoldable pub next_of : Slices → Result Moved Stop → Went
next_of l (Ok m) = goes (machine_of l m.next)
next_of l (Err s) = halts s

-- a step by the exit w; one that can't be kept leaves everything as it was (rule 11.8)
unfoldable pub After : ℕ → ℕ → Slices → State → Slices → Result Moved Stop → Type 0
After w n l at l' (Ok m) = Placed n l' m.next × (m.next.steps ≡ at.steps + 1) × (m.by ≡ w)
After w n l at l' (Err s) = l' ≡ l

-- the place and the slices after a step by the exit w are those of next
pub record Steps (next : Went) (w n : ℕ) (l : Slices) (at : State) (l' : Slices) (r : Result Moved Stop) : Type 0 where
  pub is : next_of l' r ≡ next
  pub leaves : After w n l at l' r

abbrev pub Gone : ℕ → List ℕ → List ℕ → Given → ℕ → Slices → State → Slices → Result Moved Stop → Type 0
Gone n rows exits g w l at l' r = Steps (through (job_of rows exits g l) w (machine_of l at)) w n l at l' r

abbrev pub Stepped : ℕ → List ℕ → List ℕ → Given → Slices → State → Slices → Result Moved Stop → Type 0
Stepped n rows exits g l at l' r = let j = job_of rows exits g l in Steps (step_of j (machine_of l at)) (exit_from j (machine_of l at)) n l at l' r
