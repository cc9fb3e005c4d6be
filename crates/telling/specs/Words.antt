-- The words of a trace: instructions, pointers, a stack (rule 18.2). Assumes nothing.
use Rattle.std.specs.Prelude.{List, [], ◌∷◌, ◌++◌, ℕ, zero, suc, ◌-◌, ℤ, length, get_or, take}
use Rattle.base.specs.Text.{ascii}
use Rattle.flow.specs.declared.PointerState.{PointerState}
use Rattle.stack.specs.declared.Pairing.TheVariants.{Add, Sub, Mul, Div, Mod, Gt}
use Rattle.machine.specs.declared.Op.{Op}
use Rattle.machine.specs.declared.Op.TheVariants.{Nothing, Push, Pop, Pair, Not, Ptr, Swi, Dup, Roll, CharIn, CharOut, IntIn, IntOut}
use Rattle.report.specs.Text.{values, counted}

-- an instruction's name (rule 1.5)
unfoldable pub name_of : Op → List ℕ
name_of Nothing = ascii "none"
name_of Push = ascii "Push"
name_of Pop = ascii "Pop"
name_of (Pair Add) = ascii "Add"
name_of (Pair Sub) = ascii "Sub"
name_of (Pair Mul) = ascii "Mul"
name_of (Pair Div) = ascii "Div"
name_of (Pair Mod) = ascii "Mod"
name_of (Pair Gt) = ascii "Gt"
name_of Not = ascii "Not"
name_of Ptr = ascii "Ptr"
name_of Swi = ascii "Swi"
name_of Dup = ascii "Dup"
name_of Roll = ascii "Roll"
name_of CharIn = ascii "CharIn"
name_of CharOut = ascii "CharOut"
name_of IntIn = ascii "IntIn"
name_of IntOut = ascii "IntOut"

-- dp and cc by their numbers (rule 4.1)
abbrev pub dp_word : ℕ → List ℕ
dp_word dp = get_or (ascii "right" ∷ ascii "down" ∷ ascii "left" ∷ ascii "up" ∷ []) dp []

abbrev pub cc_word : ℕ → List ℕ
cc_word cc = get_or (ascii "left" ∷ ascii "right" ∷ []) cc []

-- as `dp right, cc left`
unfoldable pub pointers_text : PointerState → List ℕ
pointers_text p = ascii "dp " ++ dp_word p.dp ++ ascii ", cc " ++ cc_word p.cc

-- how many values are not shown
unfoldable pub others : ℕ → List ℕ
others zero = []
others (suc n) = counted (ascii " and ") (suc n) ++ ascii " more"

-- the most values of a stack that are shown
abbrev pub most_values : ℕ
most_values = 8

-- a stack, its top first, each value after a blank: the first ones, and how many more there are
unfoldable pub stack_text : List ℤ → List ℕ
stack_text [] = ascii " empty"
stack_text (v ∷ s) = values (take most_values (v ∷ s)) ++ others (length (v ∷ s) - most_values)
