-- The definitions at the corners of rule 9 and at `test_roll`'s numbers (two of which are rule 9.8's examples: p_lines'
-- specs/Table.antt); stacks are written top first. `negsuc n` is -(n + 1). Assumes nothing.
use mathlib.Core.Path.{◌≡◌, refl}
use mathlib.Core.List.{[], ◌∷◌}
use lib.IntN.{pos, negsuc}
use Rattle.base.specs.declared.edition.Edition.TheVariants.{Rust, Page}
use Rattle.word.specs.Word.{residue, signed64, wrap, is_zero, quotient, rust_remainder, page_remainder, remainder}
use Rattle.stack.specs.declared.Pairing.TheVariants.{Add, Sub, Div, Mod, Gt}
use Rattle.stack.specs.Instr.{undone, in_place, binary, combined, pair, not, turn, bad_depth, places, rolled, roll}

-- with 2 on top 5 - 2 and 5 > 2 (rules 9.3, 9.6); Div by 0 and Mod by -2^63 drop both values (rules 9.4, 9.5); one value is too
-- few (rule 9.1)
pub pairs : (pair Rust Sub (pos 2 ∷ pos 5 ∷ []) ≡ pos 3 ∷ [])
    × (pair Rust Gt (pos 2 ∷ pos 5 ∷ []) ≡ pos 1 ∷ [])
    × (pair Rust Div (pos 0 ∷ pos 5 ∷ pos 4 ∷ []) ≡ pos 4 ∷ [])
    × (pair Rust Mod (negsuc 9223372036854775807 ∷ pos 5 ∷ pos 4 ∷ []) ≡ pos 4 ∷ [])
    × (pair Rust Add (pos 2 ∷ []) ≡ pos 2 ∷ [])
unfolding residue signed64 wrap is_zero quotient rust_remainder remainder undone in_place combined binary
pairs = (refl, refl, refl, refl, refl)

-- the other numbers of `test_roll`
pub test_roll : (roll Rust (negsuc 0 ∷ pos 2 ∷ pos 6 ∷ pos 5 ∷ pos 4 ∷ []) ≡ pos 5 ∷ pos 6 ∷ pos 4 ∷ [])
    × (roll Rust (pos 1 ∷ pos 3 ∷ pos 6 ∷ pos 5 ∷ pos 4 ∷ []) ≡ pos 5 ∷ pos 4 ∷ pos 6 ∷ [])
unfolding residue turn bad_depth places rolled roll
test_roll = (refl, refl)

-- a roll by -2^63, which is 1 modulo 3; depths that roll nothing: 0, negative, above the values left (rule 9.8); one value is
-- too few (rule 9.1)
pub roll_corners : (roll Rust (negsuc 9223372036854775807 ∷ pos 3 ∷ pos 6 ∷ pos 5 ∷ pos 4 ∷ []) ≡ pos 5 ∷ pos 4 ∷ pos 6 ∷ [])
    × (roll Rust (pos 1 ∷ pos 0 ∷ pos 6 ∷ pos 5 ∷ []) ≡ pos 6 ∷ pos 5 ∷ [])
    × (roll Rust (negsuc 9223372036854775807 ∷ pos 0 ∷ pos 6 ∷ pos 5 ∷ []) ≡ pos 6 ∷ pos 5 ∷ [])
    × (roll Rust (pos 1 ∷ negsuc 9223372036854775807 ∷ pos 6 ∷ pos 5 ∷ []) ≡ pos 6 ∷ pos 5 ∷ [])
    × (roll Rust (pos 1 ∷ pos 3 ∷ pos 6 ∷ pos 5 ∷ []) ≡ pos 6 ∷ pos 5 ∷ [])
    × (roll Rust (pos 1 ∷ []) ≡ pos 1 ∷ [])
unfolding residue turn bad_depth places rolled undone roll
roll_corners = (refl, refl, refl, refl, refl, refl)

-- in edition 2 what can't be done leaves its operands (rule 16.2), and a roll that can be done is that of edition 1
pub page : (pair Page Div (pos 0 ∷ pos 7 ∷ pos 9 ∷ []) ≡ pos 0 ∷ pos 7 ∷ pos 9 ∷ [])
    × (pair Page Mod (pos 0 ∷ pos 7 ∷ pos 9 ∷ []) ≡ pos 0 ∷ pos 7 ∷ pos 9 ∷ [])
    × (roll Page (pos 1 ∷ negsuc 0 ∷ pos 6 ∷ pos 5 ∷ []) ≡ pos 1 ∷ negsuc 0 ∷ pos 6 ∷ pos 5 ∷ [])
    × (roll Page (pos 1 ∷ pos 3 ∷ pos 6 ∷ pos 5 ∷ []) ≡ pos 1 ∷ pos 3 ∷ pos 6 ∷ pos 5 ∷ [])
    × (roll Page (pos 1 ∷ pos 0 ∷ pos 6 ∷ pos 5 ∷ []) ≡ pos 6 ∷ pos 5 ∷ [])
    × (roll Page (pos 1 ∷ pos 2 ∷ pos 6 ∷ pos 5 ∷ []) ≡ pos 5 ∷ pos 6 ∷ [])
unfolding residue is_zero quotient page_remainder remainder undone in_place combined binary turn bad_depth places rolled roll
page = (refl, refl, refl, refl, refl, refl)

-- Not (rule 9.6), and of an empty stack (rule 9.1)
pub nots : (not (pos 0 ∷ []) ≡ pos 1 ∷ []) × (not (negsuc 0 ∷ []) ≡ pos 0 ∷ []) × (not [] ≡ [])
unfolding is_zero not
nots = (refl, refl, refl)
