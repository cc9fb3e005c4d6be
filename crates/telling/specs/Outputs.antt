-- Outputs as text: as the program wrote them (rule 18.4), and one of them in a line of a trace (rule 18.2). Assumes nothing.
use Rattle.std.specs.Prelude.{Bool, false, cond, not, ◌&&◌, ◌||◌, List, [], ◌∷◌, ◌++◌, ℕ, eqb, ltb, ℤ, pos, negsuc}
use Rattle.base.specs.Text.{ascii}
use Rattle.text.specs.Range.{within}
use Rattle.text.specs.Utf8.{scalar, encode}
use Rattle.machine.specs.Output.{Emit}
use Rattle.report.specs.Text.{int, value, item}

-- a control character, which would move a terminal's cursor
abbrev pub control : ℕ → Bool
control c = ltb c 32 || within 127 159 c

-- a value that is a Unicode scalar; CharOut writes no other (rule 9.9)
abbrev pub is_char : ℤ → Bool
is_char (pos c) = scalar c
is_char (negsuc n) = false

-- its bytes
abbrev pub char_text : ℤ → List ℕ
char_text (pos c) = encode c
char_text (negsuc n) = []

-- an output as it is written: a character by its bytes, a number in decimal
unfoldable pub emit_text : ℕ → ℤ → List ℕ
emit_text kind v = cond (eqb kind 1) (cond (is_char v) (char_text v) []) (int v)

-- all outputs, one after the other, with nothing between them
unfoldable pub output_text : List Emit → List ℕ
output_text [] = []
output_text (e ∷ es) = emit_text e.kind e.value ++ output_text es

-- a character that can be shown
abbrev pub is_shown : ℤ → Bool
is_shown (pos c) = scalar c && not (control c)
is_shown (negsuc n) = false

-- in quotes, after a blank
abbrev pub quoted : List ℕ → List ℕ
quoted text = ascii " '" ++ text ++ ascii "'"

-- an output after a blank, as ` 12`, ` 'A'`, or by its number, ` c10`
unfoldable pub shown : ℕ → ℤ → List ℕ
shown kind v = cond (eqb kind 1) (cond (is_shown v) (quoted (char_text v)) (item 1 v)) (value v)

-- the first of the outputs that a move makes; no instruction makes two (`int_out`, `char_out`: machine, Output)
unfoldable pub out_text : List Emit → List ℕ
out_text [] = []
out_text (e ∷ es) = ascii "; out" ++ shown e.kind e.value
