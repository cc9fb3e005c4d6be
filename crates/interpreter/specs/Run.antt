-- One step over a table, and steps until a stop (rules 8.2, 8.3). A run recurses on what is left of the limit. Assumes nothing.
use Rattle.std.specs.Prelude.{cond, List, ℕ, zero, suc, ◌+◌}
use Rattle.machine.specs.declared.Stop.{Stop}
use Rattle.machine.specs.declared.Stop.TheVariants.{Completed, MaxSteps, NeedsInput}
use Rattle.machine.specs.Machine.{Given, RunRoom, Effect, Out, keeps, stops, exec, fitting, with_pointers}
use Rattle.machine.specs.Place.{Machine, start, End}
use Rattle.interpreter.specs.Table.{pointers_of, op_of, exit_of, ends}
use Rattle.table.specs.Layout.{size_of}
use Rattle.table.specs.ExitNumber.{target_of}

-- a run: the table, what is given besides, and the room of the stack and of the outputs
pub record Job : Type 0 where
  pub rows : List ℕ
  pub exits : List ℕ
  pub given : Given
  pub room : RunRoom

-- what a step comes to
pub data Went : Type 0 where
  goes : Machine → Went
  halts : Stop → Went

-- where the instruction is kept: at the exit's target, one step more (rule 8.3); else the step is not taken (rule 11.8)
unfoldable pub arrive : ℕ → Machine → Out → Went
arrive w m (keeps s) = goes (record { region = target_of w; steps = m.steps + 1; store = s })
arrive w m (stops s) = halts s

module _ (j : Job) where
  -- the exit that a run comes to from where it stands; 0 where there is none
  abbrev pub exit_from : Machine → ℕ
  exit_from m = exit_of j.exits m.region m.store.pointers

  -- by the exit w: the pointers are set, and its instruction works with the size of the block just left (rule 8.3)
  abbrev pub effect_of : ℕ → Machine → Effect
  effect_of w m = exec j.given (size_of j.rows m.region) (op_of w) (with_pointers (pointers_of w) m.store)

  abbrev pub through : ℕ → Machine → Went
  through w m = arrive w m (fitting j.room (effect_of w m))

  -- the last test before a step: Completed, where no attempt is open (rules 8.2, 11.1) or a lost slide comes first (rule 16.6)
  abbrev pub leave : ℕ → Machine → Went
  leave w m = cond (ends w) (halts Completed) (through w m)

  -- the test before that: NeedsInput, where input is awaited (rules 8.2, 11.3)
  abbrev pub step_of : Machine → Went
  step_of m = cond m.store.reading.awaiting (halts NeedsInput) (leave (exit_from m) m)

unfoldable pub after : (Machine → End) → Machine → Went → End
after more m (goes m') = more m'
after more m (halts s) = record { stop = s; at = m }

-- at most `left` steps more; the first test before a step is the limit's, MaxSteps (rules 8.2, 11.2)
unfoldable pub run_of : Job → ℕ → Machine → End
run_of j zero m = record { stop = MaxSteps; at = m }
run_of j (suc left) m = after (run_of j left) m (step_of j m)

-- the run from the start to its limit
abbrev pub ran : Job → End
ran j = run_of j j.given.terms.limit start
