-- The history of a run over any table: the exits that it takes, in order, the regions that it enters, and the number lines that
-- it skips. Assumes nothing.
use Rattle.std.specs.Prelude.{◌≡◌, ◌⊎◌, List, [], ◌∷◌, ◌++◌, map, ℕ, ◌+◌, ◌<◌, ◌≤◌, length}
use Rattle.table.specs.ExitNumber.{target_of}
use Rattle.text.specs.declared.number.Reason.{Reason}
use Rattle.machine.specs.declared.Stop.TheVariants.{MaxSteps}
use Rattle.machine.specs.Counts.{count_of, times}
use Rattle.machine.specs.Skipped.{skipped}
use Rattle.machine.specs.Place.{Machine, End}
use Rattle.interpreter.specs.Table.{op_of}
use Rattle.interpreter.specs.Run.{Job, goes, halts, exit_from, step_of}

module _ (j : Job) where
  -- `Passes m exits m'`: from m the run comes to m' by these exits in their order, each the one taken by a step that is kept
  pub data Passes : Machine → List ℕ → Machine → Type 0 where
    stays : {m : Machine} → Passes m [] m
    passes : {m m' m'' : Machine} {exits : List ℕ} → step_of j m ≡ goes m' → Passes m' exits m'' → Passes m (exit_from j m ∷ exits) m''

  -- the reasons for which the steps of a history skipped number lines (rule 10.9), in order
  unfoldable pub reasons_of : {m m' : Machine} {exits : List ℕ} → Passes m exits m' → List Reason
  reasons_of stays = []
  reasons_of (passes {m = m} step rest) = skipped j.given (op_of (exit_from j m)) m.store ++ reasons_of rest

  -- a run of at most k steps from m ends in e: by these exits, which are as many as the steps made, and as is reported: all
  -- k steps were made, or the next one halts. Of each reason to skip a line as many more are counted as its steps skipped for it
  pub record History (k : ℕ) (m : Machine) (e : End) : Type 0 where
    pub exits : List ℕ
    pub passes : Passes m exits e.at
    pub counted : e.at.steps ≡ m.steps + length exits
    pub skips : (reason : Reason) → count_of reason e.at.store.reading.skips ≡ count_of reason m.store.reading.skips + times reason (reasons_of passes)
    pub within : length exits ≤ k
    pub why : ((e.stop ≡ MaxSteps) × (length exits ≡ k)) ⊎ ((step_of j e.at ≡ halts e.stop) × (length exits < k))

-- the regions entered: the one where the run begins, and then each exit's target
abbrev pub regions_of : Machine → List ℕ → List ℕ
regions_of m exits = m.region ∷ map target_of exits
