-- Inner: what the parts of a trace promise, over a table: the lines of a run's steps, and its end. Assumes nothing.
use Rattle.std.specs.Prelude.{◌≡◌, List, [], ◌++◌, ℕ, min, ◌-◌, ◌*◌, ◌<◌, ◌≤◌, length, Ok}
use Rattle.flow.specs.Pointer.{Valid}
use Rattle.machine.specs.Machine.{Given}
use Rattle.machine.specs.Place.{Machine, start}
use Rattle.machine.specs.Held.{Slices}
use Rattle.interpreter.specs.declared.State.{State}
use Rattle.interpreter.specs.declared.Ended.{Ended}
use Rattle.interpreter.specs.Table.{op_of}
use Rattle.interpreter.specs.Run.{Job, goes, exit_from, step_of}
use Rattle.interpreter.specs.Outcome.{job_of, end_of, ended_of, slices_of}
use Rattle.interpreter.specs.Resume.{machine_of}
use Rattle.interpreter.specs.Moving.{Stepped}
use Rattle.report.specs.Wrote.{Wrote}
use Rattle.answer.specs.Program.{run_room}
use Rattle.answer.specs.Printing.{HasLabel, label_in}
use Rattle.telling.specs.Line.{move_line}
use Rattle.telling.specs.Ending.{hidden_text, end_lines}
use Rattle.trace.specs.declared.Shown.{Shown}
use Rattle.trace.specs.Trace.{most_lines, trace_room}

-- the line of a step over a table
abbrev pub step_line : Job → Machine → Machine → List ℕ
step_line j m m' = move_line m'.steps (label_in j.rows m.region) (op_of (exit_from j m)) m.store m'.store

-- the run comes from the start to m, and the text has a line for each step
pub data Told (j : Job) : Machine → List ℕ → Type 0 where
  none : Told j start []
  more : {m m' : Machine} {text : List ℕ} → Told j m text → step_of j m ≡ goes m' → Told j m' (text ++ step_line j m m')

-- each of n regions can be labelled
abbrev pub Labelled : ℕ → List ℕ → Type 0
Labelled n rows = (r : ℕ) → r < n → HasLabel rows r

-- the step from a place is made
abbrev pub Goes : Job → Machine → Type 0
Goes j m = (m' : Machine) × (step_of j m ≡ goes m')

-- a step was made and its line written
pub record Steps (n : ℕ) (rows exits : List ℕ) (g : Given) (l : Slices) (at : State) (l' : Slices) (d : List ℕ) (from : ℕ) (r : Shown) (d' : List ℕ) : Type 0 where
  pub stepped : Stepped n rows exits g l at l' (Ok (record { next = r.at; by = exit_from (job_of rows exits g l) (machine_of l at) }))
  pub line : Wrote d from (step_line (job_of rows exits g l) (machine_of l at) (machine_of l' r.at)) r.end d' 512

-- a run of a table of which so many moves can be told
pub record Tellable (n : ℕ) (rows exits : List ℕ) (g : Given) (l : Slices) (room shown : ℕ) : Type 0 where
  pub labelled : Labelled n rows
  pub few : shown ≤ most_lines
  pub made : shown ≤ (end_of rows exits g l).at.steps
  pub within : shown ≤ g.terms.limit
  pub roomy : 512 * most_lines ≤ room

-- and was told
pub record Tells (rows exits : List ℕ) (g : Given) (l : Slices) (shown : ℕ) (d : List ℕ) (r : ℕ) (d' : List ℕ) : Type 0 where
  pub at : Machine
  pub steps : at.steps ≡ shown
  pub text : List ℕ
  pub told : Told (job_of rows exits g l) at text
  pub wrote : Wrote d 0 text r d' (512 * shown)

-- a run of a table that ended in e, with these slices, in the room of a job's run, and can be told
pub record Endable (n : ℕ) (rows exits : List ℕ) (g : Given) (l : Slices) (e : Ended) (room : ℕ) : Type 0 where
  pub labelled : Labelled n rows
  pub inside : e.at.region < n
  pub ended : e ≡ ended_of (end_of rows exits g l)
  pub left : l ≡ slices_of l (end_of rows exits g l).at.store
  pub valid : Valid e.at.core.pointers
  pub sized : (length l.stack ≡ run_room.stack) × (length l.kinds ≡ run_room.outs) × (length l.values ≡ run_room.outs)
  pub roomy : trace_room ≤ room

-- and was told to its end
pub record Ends (rows exits : List ℕ) (g : Given) (l : Slices) (d : List ℕ) (r : ℕ) (d' : List ℕ) : Type 0 where
  pub at : Machine
  pub lines : List ℕ
  pub told : Told (job_of rows exits g l) at lines
  pub steps : at.steps ≡ min most_lines (end_of rows exits g l).at.steps
  pub text : List ℕ
  pub is : let e = end_of rows exits g l in
      text ≡ lines ++ hidden_text (e.at.steps - most_lines) ++ end_lines e.stop e.at.steps (label_in rows e.at.region) e.at.store
  pub most : ℕ
  pub wrote : Wrote d 0 text r d' most
