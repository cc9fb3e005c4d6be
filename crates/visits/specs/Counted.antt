-- Inner: what the parts of a call promise: counting beside a run, and listing what was never entered. Assumes nothing.
use Rattle.std.specs.Prelude.{◌≡◌, List, ℕ, length, get_or}
use Rattle.base.specs.Counting.{counts}
use Rattle.base.specs.Lent.{lent}
use Rattle.machine.specs.Place.{start}
use Rattle.interpreter.specs.Run.{Job, ran}
use Rattle.interpreter.specs.History.{History, regions_of}
use Rattle.visits.specs.Visits.{unvisited_of, list_of}

-- from the start to the limit: the first n cells are the counts of the regions entered
pub record Counted (n : ℕ) (j : Job) (visits visits' : List ℕ) : Type 0 where
  pub history : History j j.given.terms.limit start (ran j)
  pub cells : visits' ≡ lent (counts n (regions_of start history.exits)) visits

-- the nodes whose cell is 0, and how many they are
pub record Lists (n : ℕ) (rows visits unvisited unvisited' : List ℕ) (r : ℕ) : Type 0 where
  pub counted : r ≡ length (unvisited_of n rows (λ i. get_or visits i 0))
  pub cells : unvisited' ≡ lent (list_of n rows (λ i. get_or visits i 0)) unvisited
