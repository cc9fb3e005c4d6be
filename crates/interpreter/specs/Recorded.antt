-- What a call of a run answers and leaves that records the exits it takes (rule 18.1). Assumes nothing.
use Rattle.std.specs.Prelude.{◌≡◌, List, ℕ, length, take, Result}
use Rattle.base.specs.Lent.{lent}
use Rattle.base.specs.Numbers.{unless_refused}
use Rattle.machine.specs.Machine.{Asks, given_of}
use Rattle.machine.specs.Place.{start}
use Rattle.machine.specs.Held.{Slices}
use Rattle.base.specs.declared.refusal.Refusal.{Refusal}
use Rattle.interpreter.specs.declared.Ended.{Ended}
use Rattle.interpreter.specs.History.{History}
use Rattle.interpreter.specs.Outcome.{job_of, end_of, answer, Outcome}

-- a lent list with exits at its start, the first ones where it is shorter, and past them as it was
abbrev pub taken_of : List ℕ → List ℕ → List ℕ
taken_of exits taken = lent (take (length taken) exits) taken

-- The call is that of a run, with a lent list more: it has the exits taken, in their order, by the history of the run; and where the call
-- is refused it is as it was (rule 12.1).
pub record Recorded (n : ℕ) (rows exits : List ℕ) (a : Asks) (l : Slices) (taken : List ℕ) (r : Result Ended Refusal) (l' : Slices) (taken' : List ℕ) : Type 0 where
  pub run : Outcome n rows exits a l r l'
  pub history : History (job_of rows exits (given_of a) l) a.limit start (end_of rows exits (given_of a) l)
  pub leaves : taken' ≡ unless_refused (answer n rows exits a l) (taken_of history.exits taken) taken
