-- Lines of a trace, as rules 18.2 to 18.4 show them. Assumes nothing.
use mathlib.Core.Path.{◌≡◌, refl}
use mathlib.Core.Bool.{false}
use mathlib.Core.List.{List, [], ◌∷◌, ◌++◌}
use Prim.Native.Nat.{ℕ}
use lib.IntN.{ℤ, pos, negsuc}
use Rattle.base.specs.Text.{ascii, digits, decimal}
use Rattle.flow.specs.Pointer.{start_state}
use Rattle.stack.specs.declared.Pairing.TheVariants.{Add}
use Rattle.text.specs.Range.{within}
use Rattle.text.specs.Utf8.{scalar, encode}
use Rattle.machine.specs.declared.Op.TheVariants.{Pair, CharOut}
use Rattle.machine.specs.declared.Skips.{Skips}
use Rattle.machine.specs.declared.Stop.TheVariants.{Completed}
use Rattle.machine.specs.Output.{Emit}
use Rattle.machine.specs.Counts.{no_skips}
use Rattle.machine.specs.Machine.{Store}
use Rattle.report.specs.Text.{newline, int, value, values, item, counted, line}
use Rattle.telling.specs.Words.{name_of, pointers_text, others, stack_text}
use Rattle.telling.specs.Outputs.{emit_text, output_text, shown, out_text}
use Rattle.telling.specs.Line.{line_with, move_line}
use Rattle.telling.specs.Ending.{stop_text, unless_none, skips_text, hidden_text, output_lines, place_text, end_lines}

abbrev character : ℕ → Emit
character c = record { kind = 1; value = pos c }

abbrev number : ℤ → Emit
number v = record { kind = 2; value = v }

-- where a run stands, its pointers as at the start
abbrev store : List ℤ → List Emit → Skips → Store
store stack outs skips =
    record { pointers = start_state; stack = stack; outs = outs; reading = record { used = 0; awaiting = false; skips = skips } }

abbrev one_skipped : Skips
one_skipped = record { ended = 0; blank = 0; not_number = 1; out_of_range = 0 }

-- a move that adds, and one that writes a character
pub move_example : move_line 3 (ascii "DarkGreen_0_2") (Pair Add) (store (pos 7 ∷ pos 5 ∷ []) [] no_skips) (store (pos 12 ∷ []) [] no_skips)
    ≡ ascii "3 DarkGreen_0_2 Add: 7 5 -> 12; dp right, cc left" ++ newline
unfolding line_with name_of pointers_text others stack_text out_text counted digits decimal int value values
move_example = refl

pub out_example : move_line 12 (ascii "RegRed_4_0") CharOut (store (pos 65 ∷ []) (number (pos 3) ∷ []) no_skips) (store [] (number (pos 3) ∷ character 65 ∷ []) no_skips)
    ≡ ascii "12 RegRed_4_0 CharOut: 65 -> empty; dp right, cc left; out 'A'" ++ newline
unfolding line_with name_of pointers_text others stack_text out_text shown scalar encode within counted digits decimal int value values
out_example = refl

-- of ten values eight are shown
pub stack_example : stack_text (pos 10 ∷ pos 9 ∷ pos 8 ∷ negsuc 6 ∷ pos 6 ∷ pos 5 ∷ pos 4 ∷ pos 3 ∷ pos 2 ∷ pos 1 ∷ [])
    ≡ ascii " 10 9 8 -7 6 5 4 3 and 2 more"
unfolding others stack_text counted digits decimal int value values
stack_example = refl

-- a character, one that cannot be shown, and a number
pub shown_example : (shown 1 (pos 65) ≡ ascii " 'A'") × (shown 1 (pos 10) ≡ ascii " c10") × (shown 2 (negsuc 2) ≡ ascii " -3")
unfolding shown scalar encode within digits decimal int value item
shown_example = (refl, refl, refl)

pub output_example : output_text (character 72 ∷ number (pos 12) ∷ []) ≡ ascii "H12"
unfolding emit_text output_text scalar encode within digits decimal int
output_example = refl

-- an end, where one line was skipped
pub end_example : end_lines Completed 40 (ascii "RegRed_0_3") (store (pos 1 ∷ []) (character 72 ∷ number (pos 12) ∷ []) one_skipped)
    ≡ ascii "Completed: no attempt is open" ++ newline
    ++ ascii "steps 40, at RegRed_0_3; dp right, cc left; stack 1" ++ newline
    ++ ascii "IntIn skipped lines that are no number: 1" ++ newline
    ++ ascii "output 3 bytes:" ++ newline
    ++ ascii "H12"
unfolding stop_text unless_none skips_text output_lines place_text end_lines pointers_text others stack_text emit_text output_text scalar encode within counted line digits decimal int value values
end_example = refl

pub hidden_example : (hidden_text 2 ≡ ascii "moves not shown, for lack of room: 2" ++ newline) × (hidden_text 0 ≡ [])
unfolding hidden_text unless_none counted line digits decimal
hidden_example = (refl, refl)
