-- Where a run may be taken up again, and what `resume` makes of it (rule 8.8). Assumes nothing.
use Rattle.std.specs.Prelude.{◌≡◌, List, ℕ, ◌-◌, ◌<◌, ◌≤◌, Result, Ok, Err}
use Rattle.machine.specs.Counts.{total}
use Rattle.machine.specs.Machine.{Given, Asks, given_of, JudgedIn}
use Rattle.machine.specs.Place.{Machine, End}
use Rattle.machine.specs.Held.{Slices, store_of, Stands}
use Rattle.interpreter.specs.declared.State.{State}
use Rattle.interpreter.specs.declared.Ended.{Ended}
use Rattle.base.specs.declared.refusal.Refusal.{Refusal}
use Rattle.interpreter.specs.Table.{Good}
use Rattle.interpreter.specs.Run.{run_of}
use Rattle.interpreter.specs.Outcome.{job_of, end_of}

abbrev pub machine_of : Slices → State → Machine
machine_of l at = record { region = at.region; steps = at.steps; store = store_of l at.core }

-- a place of a table of n regions, with the slices as they stand there; no more number lines were skipped than steps made
pub record Placed (n : ℕ) (l : Slices) (at : State) : Type 0 where
  pub stands : Stands l at.core
  pub inside : at.region < n
  pub few : total at.core.reading.skips ≤ at.steps

-- the place and the slices in which a run ended are those of e, and it may be resumed from there
pub record Reaches (n : ℕ) (e : End) (l : Slices) (r : Ended) : Type 0 where
  pub placed : Placed n l r.at
  pub stop : r.stop ≡ e.stop
  pub at : machine_of l r.at ≡ e.at

-- from a place to the limit
abbrev pub Resumed : ℕ → List ℕ → List ℕ → Given → Slices → State → Slices → Ended → Type 0
Resumed n rows exits g l from l' r =
    Reaches n (run_of (job_of rows exits g l) (g.terms.limit - from.steps) (machine_of l from)) l' r

-- from the start to the limit
abbrev pub Started : ℕ → List ℕ → List ℕ → Given → Slices → Slices → Ended → Type 0
Started n rows exits g l l' r = Reaches n (end_of rows exits g l) l' r

-- where a run ended it may be taken up again: what `resume` asks for holds there, and it stands where the run ended
abbrev pub Resumable : ℕ → List ℕ → List ℕ → Asks → Slices → Result Ended Refusal → Slices → Type 0
Resumable n rows exits a l (Err r) l' = Unit {0}
Resumable n rows exits a l (Ok e) l' =
    Good n rows exits × Started n rows exits (given_of a) l l' e × JudgedIn (given_of a) e.at.core.reading
