-- The text that the run program prints (rules 13.5, 13.6), by words that a trace has too. Each line ends with a newline. Assumes nothing.
use Rattle.std.specs.Prelude.{cond, List, [], ◌∷◌, ◌++◌, ℕ, suc, eqb, ℤ, pos, negsuc, length}
use Rattle.base.specs.Text.{ascii, decimal}
use Rattle.machine.specs.Output.{Emit}

abbrev pub newline : List ℕ
newline = 10 ∷ []

-- a signed number: `negsuc n` is -(n + 1)
unfoldable pub int : ℤ → List ℕ
int (pos n) = decimal n
int (negsuc n) = ascii "-" ++ decimal (suc n)

-- a value, after a space
unfoldable pub value : ℤ → List ℕ
value v = ascii " " ++ int v

unfoldable pub values : List ℤ → List ℕ
values [] = []
values (v ∷ vs) = value v ++ values vs

-- an output, after a space: its kind's letter and its value, as `c65`, `i-3` (rule 13.5)
abbrev pub letter : ℕ → List ℕ
letter kind = cond (eqb kind 1) (ascii " c") (ascii " i")

unfoldable pub item : ℕ → ℤ → List ℕ
item kind v = letter kind ++ int v

unfoldable pub items : List Emit → List ℕ
items [] = []
items (e ∷ es) = item e.kind e.value ++ items es

-- a word and a number, and a line of these
unfoldable pub counted : List ℕ → ℕ → List ℕ
counted word n = word ++ decimal n

unfoldable pub line : List ℕ → ℕ → List ℕ
line word n = counted word n ++ newline

-- the line `at`: label, dp, cc
unfoldable pub place_line : List ℕ → ℕ → ℕ → List ℕ
place_line label dp cc = ascii "at " ++ label ++ counted (ascii " ") dp ++ line (ascii " ") cc

-- the lines `stack` and `out`: a count, and then the values, top first, or the outputs, in order
unfoldable pub stack_line : List ℤ → List ℕ
stack_line stack = counted (ascii "stack ") (length stack) ++ values stack ++ newline

unfoldable pub out_line : List Emit → List ℕ
out_line outs = counted (ascii "out ") (length outs) ++ items outs ++ newline

-- the five lines of a result: status, steps, label, dp, cc, the stack, top first, and the outputs, in order
unfoldable pub result_text : ℕ → ℕ → List ℕ → ℕ → ℕ → List ℤ → List Emit → List ℕ
result_text status steps label dp cc stack outs =
    line (ascii "status ") status ++ line (ascii "steps ") steps ++ place_line label dp cc ++ stack_line stack ++ out_line outs

-- the line of a refused job (rule 13.6)
unfoldable pub refusal_text : ℕ → List ℕ
refusal_text number = line (ascii "refused ") number
