-- The worked job's answer, and the corners of numbers. Assumes nothing.
use mathlib.Core.Path.{◌≡◌, refl}
use mathlib.Core.List.{[], ◌∷◌, ◌++◌}
use lib.IntN.{pos, negsuc}
use Rattle.base.specs.Text.{ascii, digits, decimal}
use Rattle.report.specs.Text.{newline, int, value, values, item, items, counted, line, place_line, stack_line, out_line, result_text, refusal_text}

-- the worked job (rule 13.8) prints these five lines
pub example : result_text 2 3 (ascii "RegRed_0_1") 0 0 (pos 1 ∷ []) []
    ≡ ascii "status 2" ++ newline ++ ascii "steps 3" ++ newline ++ ascii "at RegRed_0_1 0 0" ++ newline ++ ascii "stack 1 1" ++ newline ++ ascii "out 0" ++ newline
unfolding result_text counted line place_line stack_line out_line digits decimal int value values items
example = refl

-- top first, outputs in order
pub stack_example : stack_line (pos 10 ∷ negsuc 6 ∷ pos 5 ∷ []) ≡ ascii "stack 3 10 -7 5" ++ newline
unfolding counted stack_line digits decimal int value values
stack_example = refl

pub out_example : out_line (record { kind = 1; value = pos 65 } ∷ record { kind = 2; value = negsuc 2 } ∷ []) ≡ ascii "out 2 c65 i-3" ++ newline
unfolding counted out_line digits decimal int item items
out_example = refl

pub refusal_example : refusal_text 11 ≡ ascii "refused 11" ++ newline
unfolding refusal_text counted line digits decimal
refusal_example = refl
