-- What a call of a run that is counted answers and leaves in the lent slices (rules 12.11, 17.1 to 17.4). Assumes nothing.
use Rattle.std.specs.Prelude.{◌≡◌, Bool, ◌||◌, List, [], ◌∷◌, ◌++◌, ℕ, ◌+◌, ◌-◌, ◌^◌, eqb, ltb, length, replicate, ℤ, Result, Ok, Err}
use Rattle.base.specs.Counting.{count, counts}
use Rattle.base.specs.Lent.{lent}
use Rattle.base.specs.Numbers.{Numbers, numbers, Row, row, first, unless_refused}
use Rattle.base.specs.Refusal.{answered}
use Rattle.base.specs.declared.refusal.Refusal.{Refusal}
use Rattle.machine.specs.Machine.{Asks, given_of}
use Rattle.machine.specs.Place.{start, End}
use Rattle.machine.specs.Held as held
use Rattle.machine.specs.Held.{Slices}
use Rattle.interpreter.specs.declared.Ended.{Ended}
use Rattle.interpreter.specs.History.{History, regions_of}
use Rattle.interpreter.specs.Outcome.{result_cells, result_of, ended_of, slices_of, refused_in, refusals_in, job_of, end_of}
use Rattle.visits.specs.declared.Visited.{Visited}
use Rattle.visits.specs.Visits.{unvisited_of, list_of}

-- what a call is lent: a run's slices, a cell a region for the counts, and the list's
pub record Lends : Type 0 where
  pub run : Slices
  pub visits : List ℕ
  pub unvisited : List ℕ

abbrev pub lends : List ℤ → List ℕ → List ℤ → List ℕ → List ℕ → Lends
lends stack kinds values visits unvisited = record { run = held.slices stack kinds values; visits = visits; unvisited = unvisited }

-- a result has the cells of a run's, and one for the list's count
abbrev pub visit_cells : ℕ
visit_cells = result_cells + 1

-- the one limit under which a count need not fit in 64 bits: a region may be entered at the start and by every step
abbrev pub uncountable : ℕ
uncountable = 2 ^ 64 - 1

-- one of the two slices has less than a cell a region
abbrev pub too_short : ℕ → Lends → Bool
too_short n l = ltb (length l.visits) n || ltb (length l.unvisited) n

-- the refusals of the call: those of a run, then 16, then 4 (rule 12.11)
abbrev pub refusals : ℕ → List ℕ → List ℕ → Asks → Lends → List Row
refusals n rows exits a l =
    refusals_in visit_cells a.edition n rows exits
    ++ (row (eqb a.limit uncountable) (refused_in visit_cells 16) ∷ row (too_short n l) (refused_in visit_cells 4) ∷ [])

-- the answer in numbers: the run's result, then the list's count
unfoldable pub numbered : Result Visited Refusal → Numbers
numbered = answered (λ v. result_of v.ended ++ (v.unvisited ∷ [])) (λ r. replicate visit_cells 0)

-- the same answer without the list's count, as `run` gives it
abbrev pub ran_of : Result Visited Refusal → Result Ended Refusal
ran_of (Ok v) = Ok v.ended
ran_of (Err r) = Err r

module _ (n : ℕ) (rows exits : List ℕ) (a : Asks) (l : Lends) where
  -- where the run ends, which is `run`'s
  abbrev pub end : End
  end = end_of rows exits (given_of a) l.run

  -- its history
  abbrev pub Entering : Type 0
  Entering = History (job_of rows exits (given_of a) l.run) a.limit start end

  -- where these are the regions entered: what is answered
  abbrev pub answer : List ℕ → Numbers
  answer entered =
      first (refusals n rows exits a l)
      (numbers 0 (result_of (ended_of end) ++ (length (unvisited_of n rows (λ r. count r entered)) ∷ [])))

  -- what the lent slices hold where the call is done
  abbrev pub done_with : List ℕ → Lends
  done_with entered = record {
    run = slices_of l.run end.at.store;
    visits = lent (counts n entered) l.visits;
    unvisited = lent (list_of n rows (λ r. count r entered)) l.unvisited;
  }

  -- and what they held, where it is refused (rule 12.1)
  abbrev pub left_of : List ℕ → Lends
  left_of entered = unless_refused (answer entered) (done_with entered) l

  -- what a call answers and leaves, by the history of the run. The numbers do not tell whether input is awaited, so the place where
  -- a finished run ended is settled besides.
  pub record Outcome (r : Result Visited Refusal) (l' : Lends) : Type 0 where
    pub history : Entering
    pub answers : numbered r ≡ answer (regions_of start history.exits)
    pub ends : (v : Visited) → r ≡ Ok v → v.ended ≡ ended_of end
    pub leaves : l' ≡ left_of (regions_of start history.exits)
