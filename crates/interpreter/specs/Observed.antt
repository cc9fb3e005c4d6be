-- Inner: what is lent beside a run to observe it: cells, for all regions or for the first of them, that grow by the regions that its steps
-- reach; and cells, as many as may be, for the exits that they take. Assumes nothing.
use Rattle.std.specs.Prelude.{◌≡◌, cond, List, map, ℕ, ◌+◌, ◌-◌, ◌^◌, ◌<◌, ltb, length, get_or, set}
use Rattle.base.specs.Counting.{count}
use Rattle.table.specs.ExitNumber.{target_of}
use Rattle.machine.specs.Machine.{Given}
use Rattle.machine.specs.Place.{Machine, start, End}
use Rattle.machine.specs.Held.{Slices}
use Rattle.interpreter.specs.declared.State.{State}
use Rattle.interpreter.specs.Run.{Job, run_of, ran}
use Rattle.interpreter.specs.History.{History}
use Rattle.interpreter.specs.Outcome.{job_of}
use Rattle.interpreter.specs.Recorded.{taken_of}
use Rattle.interpreter.specs.Resume.{machine_of}

-- one more for a region, where it has a cell
abbrev pub visited : ℕ → List ℕ → List ℕ
visited r visits = cond (ltb r (length visits)) (set visits r (get_or visits r 0 + 1)) visits

-- k steps more can be counted in 64 bits, whichever of n regions they enter
abbrev pub CanCount : ℕ → List ℕ → ℕ → Type 0
CanCount n visits k = (r : ℕ) → r < n → r < length visits → get_or visits r 0 + k < 2 ^ 64

-- the exit of the step after so many, where there is a cell for it
abbrev pub kept_at : ℕ → ℕ → List ℕ → List ℕ
kept_at made exit taken = cond (ltb made (length taken)) (set taken made exit) taken

-- by a history of the run: the cell of each region that has one has grown by how often it is entered after the beginning, and the exits
-- are kept
pub record Observed (j : Job) (k : ℕ) (m : Machine) (e : End) (visits visits' taken taken' : List ℕ) : Type 0 where
  pub history : History j k m e
  pub cells : (r : ℕ) → r < length visits → get_or visits' r 0 ≡ get_or visits r 0 + count r (map target_of history.exits)
  pub exits : taken' ≡ taken_of history.exits taken

-- from a place to the limit
abbrev pub ObservedFrom : List ℕ → List ℕ → Given → Slices → State → List ℕ → List ℕ → List ℕ → List ℕ → Type 0
ObservedFrom rows exits g l from visits visits' taken taken' =
    let j = job_of rows exits g l in
    let k = g.terms.limit - from.steps in
    Observed j k (machine_of l from) (run_of j k (machine_of l from)) visits visits' taken taken'

-- and from the start
abbrev pub ObservedAll : List ℕ → List ℕ → Given → Slices → List ℕ → List ℕ → List ℕ → List ℕ → Type 0
ObservedAll rows exits g l visits visits' taken taken' =
    let j = job_of rows exits g l in
    Observed j g.terms.limit start (ran j) visits visits' taken taken'
