-- A line of a trace: one move (rule 18.2). Assumes nothing.
use Rattle.std.specs.Prelude.{List, ◌++◌, ℕ, ℤ, length, drop}
use Rattle.base.specs.Text.{ascii, decimal}
use Rattle.flow.specs.declared.PointerState.{PointerState}
use Rattle.machine.specs.declared.Op.{Op}
use Rattle.machine.specs.Output.{Emit}
use Rattle.machine.specs.Machine.{Store}
use Rattle.report.specs.Text.{newline}
use Rattle.telling.specs.Words.{name_of, stack_text, pointers_text}
use Rattle.telling.specs.Outputs.{out_text}

-- the step, counted from 1, and the label of the block left
abbrev pub block_text : ℕ → List ℕ → List ℕ
block_text step label = decimal step ++ ascii " " ++ label ++ ascii " "

-- and the instruction with the stack that it took, as a text
abbrev pub took_text : ℕ → List ℕ → Op → List ℕ → List ℕ
took_text step label op took = block_text step label ++ name_of op ++ ascii ":" ++ took

-- the stack that it left, the pointers and the new outputs
abbrev pub left_text : List ℤ → PointerState → List Emit → List ℕ
left_text stack pointers outs =
    ascii " ->" ++ stack_text stack ++ ascii "; " ++ pointers_text pointers ++ out_text outs ++ newline

-- both, as `3 DarkGreen_0_2 Add: 7 5 -> 12; dp right, cc left`
unfoldable pub line_with : ℕ → List ℕ → Op → List ℕ → List ℤ → PointerState → List Emit → List ℕ
line_with step label op took stack pointers outs = took_text step label op took ++ left_text stack pointers outs

-- of a move whose instruction makes the store m' of m
abbrev pub move_line : ℕ → List ℕ → Op → Store → Store → List ℕ
move_line step label op m m' = line_with step label op (stack_text m.stack) m'.stack m'.pointers (drop (length m.outs) m'.outs)
