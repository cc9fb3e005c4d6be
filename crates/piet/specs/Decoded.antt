-- The exits that a run over a table takes, read as moves. Assumes nothing.
use Rattle.std.specs.Prelude.{List, [], ◌∷◌, ℕ}
use Rattle.table.specs.ExitNumber.{target_of, instruction_of}
use Rattle.interpreter.specs.Table.{pointers_of}
use Rattle.piet.specs.Follows.{Move}

-- the move by an exit of region r
abbrev pub move_by : ℕ → ℕ → Move
move_by r exit = record { from = r; to = target_of exit; pointers = pointers_of exit; instruction = instruction_of exit }

-- the moves by exits that are taken one after the other from region r, the latest first, onto a history
unfoldable pub onto : ℕ → List ℕ → List Move → List Move
onto r [] history = history
onto r (exit ∷ exits) history = onto (target_of exit) exits (move_by r exit ∷ history)
