-- Decoding: the page's table of commands (rules 1.4, 14.2; `decode.rs`). Assumes nothing.
use Rattle.std.specs.Prelude.{cond, ◌&&◌, List, [], ◌∷◌, ℕ, ◌+◌, ◌-◌, ◌/◌, ◌%◌, ltb, get_or}
use Rattle.colour.specs.Instruction.{none, push, pop, add, sub, mul, div, mod', not', gt, ptr, swi, dup, roll, char_in, char_out, int_in, int_out}

-- a row for each hue change of 0 to 5 steps; in it same lightness, one step darker, two steps darker
abbrev pub commands : List (List ℕ)
commands =
    (none ∷ push ∷ pop ∷ [])
    ∷ (add ∷ sub ∷ mul ∷ [])
    ∷ (div ∷ mod' ∷ not' ∷ [])
    ∷ (gt ∷ ptr ∷ swi ∷ [])
    ∷ (dup ∷ roll ∷ int_in ∷ [])
    ∷ (char_in ∷ int_out ∷ char_out ∷ [])
    ∷ []

-- of a colour below 18: red 0, yellow, green, cyan, blue, magenta 5; dark 0, regular 1, light 2
abbrev pub hue : ℕ → ℕ
hue c = c % 6

abbrev pub lightness : ℕ → ℕ
lightness c = c / 6

-- steps forward in the cycle of hues, and steps darker in the cycle of lightnesses (dark to light is one)
abbrev pub hue_steps : ℕ → ℕ → ℕ
hue_steps from to = (hue to + 6 - hue from) % 6

abbrev pub darker_steps : ℕ → ℕ → ℕ
darker_steps from to = (lightness from + 3 - lightness to) % 3

-- black, 18, and white, 19, are in neither cycle
unfoldable pub decode_of : ℕ → ℕ → ℕ
decode_of from to =
    cond (ltb from 18 && ltb to 18) (get_or (get_or commands (hue_steps from to) []) (darker_steps from to) 0) none
