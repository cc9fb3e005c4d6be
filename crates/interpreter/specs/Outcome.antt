-- What a call of a run answers and leaves in the lent slices (rules 8.5, 8.6). Assumes nothing.
use Rattle.std.specs.Prelude.{◌≡◌, List, [], ◌∷◌, ◌++◌, map, reverse, ℕ, ◌-◌, length, replicate, ℤ, pos, Result, Ok}
use Rattle.base.specs.Edition.{unknown_edition, edition_of}
use Rattle.base.specs.Numbers.{Numbers, numbers, Row, row, first, unless_refused}
use Rattle.base.specs.Refusal.{answered}
use Rattle.base.specs.declared.refusal.Refusal.{Refusal}
use Rattle.machine.specs.declared.Core.{Core}
use Rattle.machine.specs.Output.{Emit}
use Rattle.machine.specs.Counts.{counts_of}
use Rattle.machine.specs.Machine.{Given, Asks, given_of, Store, status_of}
use Rattle.machine.specs.Place.{Machine, End}
use Rattle.machine.specs.Held.{Slices, slices, room_of}
use Rattle.interpreter.specs.declared.State.{State}
use Rattle.interpreter.specs.declared.Ended.{Ended}
use Rattle.interpreter.specs.Table.{wrong_table}
use Rattle.interpreter.specs.Run.{Job, ran}

-- the cells of a slice: the stack from its bottom, the outputs in order, and zeros to the slice's end (rule 8.6)
abbrev pub cells_of : ℕ → List ℤ → List ℤ
cells_of room s = reverse s ++ replicate (room - length s) (pos 0)

abbrev pub kinds_of : ℕ → List Emit → List ℕ
kinds_of room outs = map (λ e. e.kind) outs ++ replicate (room - length outs) 0

abbrev pub values_of : ℕ → List Emit → List ℤ
values_of room outs = map (λ e. e.value) outs ++ replicate (room - length outs) (pos 0)

abbrev pub slices_of : Slices → Store → Slices
slices_of l s = slices (cells_of (length l.stack) s.stack) (kinds_of (length l.kinds) s.outs) (values_of (length l.values) s.outs)

-- a store and a place, by numbers
abbrev pub core_of : Store → Core
core_of s = record { pointers = s.pointers; depth = length s.stack; outputs = length s.outs; reading = s.reading }

abbrev pub place_of : Machine → State
place_of m = record { region = m.region; steps = m.steps; core = core_of m.store }

abbrev pub ended_of : End → Ended
ended_of e = record { stop = e.stop; at = place_of e.at }

-- the numbers of a result (rule 8.5), and how many they are
abbrev pub result_of : Ended → List ℕ
result_of e =
    status_of e.stop ∷ e.at.steps ∷ e.at.region ∷ e.at.core.pointers.dp ∷ e.at.core.pointers.cc ∷ e.at.core.depth
    ∷ e.at.core.outputs
    ∷ e.at.core.reading.used
    ∷ counts_of e.at.core.reading.skips

abbrev pub result_cells : ℕ
result_cells = 12

-- a refusal has zeros beside its number (rule 12.1), as many as a result has cells
abbrev pub refused_in : ℕ → ℕ → Numbers
refused_in cells number = numbers number (replicate cells 0)

abbrev pub refused : ℕ → Numbers
refused = refused_in result_cells

-- the answer in numbers (rules 8.5, 12.2)
unfoldable pub numbered : Result Ended Refusal → Numbers
numbered = answered result_of (λ r. replicate result_cells 0)

-- the refusals of a call that runs a table, by the number of its edition: 15, then 10 (rule 12.6)
abbrev pub refusals_in : ℕ → ℕ → ℕ → List ℕ → List ℕ → List Row
refusals_in cells edition n rows exits =
    row (unknown_edition edition) (refused_in cells 15) ∷ row (wrong_table (edition_of edition) n rows exits) (refused_in cells 10) ∷ []

abbrev pub refusals : ℕ → ℕ → List ℕ → List ℕ → List Row
refusals = refusals_in result_cells

abbrev pub job_of : List ℕ → List ℕ → Given → Slices → Job
job_of rows exits g l = record { rows = rows; exits = exits; given = g; room = room_of l }

-- where the run ends that is given these
abbrev pub end_of : List ℕ → List ℕ → Given → Slices → End
end_of rows exits g l = ran (job_of rows exits g l)

-- what is answered; and what the lent slices hold then: what they held, where the call is refused (rule 12.1)
abbrev pub answer : ℕ → List ℕ → List ℕ → Asks → Slices → Numbers
answer n rows exits a l = first (refusals a.edition n rows exits) (numbers 0 (result_of (ended_of (end_of rows exits (given_of a) l))))

abbrev pub left_of : ℕ → List ℕ → List ℕ → Asks → Slices → Slices
left_of n rows exits a l = unless_refused (answer n rows exits a l) (slices_of l (end_of rows exits (given_of a) l).at.store) l

-- what a call answers and leaves. The numbers do not tell whether input is awaited, so the place where a finished
-- run ended is settled besides.
pub record Outcome (n : ℕ) (rows exits : List ℕ) (a : Asks) (l : Slices) (r : Result Ended Refusal) (l' : Slices) : Type 0 where
  pub answers : numbered r ≡ answer n rows exits a l
  pub ends : (e : Ended) → r ≡ Ok e → e ≡ ended_of (end_of rows exits (given_of a) l)
  pub leaves : l' ≡ left_of n rows exits a l
