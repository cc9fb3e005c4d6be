-- The last lines of a trace: why the run stopped, where, which number lines it skipped, and what it wrote (rules 18.3, 18.4). Assumes
-- nothing.
use Rattle.std.specs.Prelude.{List, [], ◌++◌, ℕ, zero, suc, length}
use Rattle.base.specs.Text.{ascii}
use Rattle.machine.specs.declared.Stop.{Stop}
use Rattle.machine.specs.declared.Stop.TheVariants.{Completed, MaxSteps, NeedsInput, StackFull, OutputFull, BadInput}
use Rattle.machine.specs.declared.Skips.{Skips}
use Rattle.machine.specs.Output.{Emit}
use Rattle.machine.specs.Machine.{Store}
use Rattle.report.specs.Text.{newline, counted, line}
use Rattle.telling.specs.Words.{stack_text, pointers_text}
use Rattle.telling.specs.Outputs.{output_text}

-- the reasons of a stop (rules 11.1 to 11.6), of edition 1, which jobs are of
unfoldable pub stop_text : Stop → List ℕ
stop_text Completed = ascii "Completed: no attempt is open"
stop_text MaxSteps = ascii "MaxSteps: as many steps as the limit"
stop_text NeedsInput = ascii "NeedsInput: abstract mode, after an input instruction"
stop_text StackFull = ascii "StackFull: the stack's room is used up"
stop_text OutputFull = ascii "OutputFull: the outputs' room is used up"
stop_text BadInput = ascii "BadInput: the line to be read is not UTF-8"

-- a line of a word and a count, where the count is not 0
unfoldable pub unless_none : List ℕ → ℕ → List ℕ
unless_none word zero = []
unless_none word (suc n) = line word (suc n)

-- the number lines that were skipped, by the reason (rule 10.9)
unfoldable pub skips_text : Skips → List ℕ
skips_text s =
    unless_none (ascii "IntIn found no input left: ") s.ended
    ++ unless_none (ascii "IntIn skipped lines that are blank: ") s.blank
    ++ unless_none (ascii "IntIn skipped lines that are no number: ") s.not_number
    ++ unless_none (ascii "IntIn skipped lines that are out of range: ") s.out_of_range

-- the moves that have no line
unfoldable pub hidden_text : ℕ → List ℕ
hidden_text n = unless_none (ascii "moves not shown, for lack of room: ") n

-- what the program wrote, after a line that says how many bytes that is
unfoldable pub output_lines : List Emit → List ℕ
output_lines outs = counted (ascii "output ") (length (output_text outs)) ++ ascii " bytes:" ++ newline ++ output_text outs

-- the steps made, and the label of the block where the run stands
abbrev pub steps_text : ℕ → List ℕ → List ℕ
steps_text steps label = counted (ascii "steps ") steps ++ ascii ", at " ++ label ++ ascii "; "

-- and the pointers and the stack there
unfoldable pub place_text : ℕ → List ℕ → Store → List ℕ
place_text steps label m = steps_text steps label ++ pointers_text m.pointers ++ ascii "; stack" ++ stack_text m.stack ++ newline

-- the lines of a run that stopped at a block of this label, with this store
unfoldable pub end_lines : Stop → ℕ → List ℕ → Store → List ℕ
end_lines stop steps label m =
    stop_text stop ++ newline ++ place_text steps label m ++ skips_text m.reading.skips ++ output_lines m.outs
