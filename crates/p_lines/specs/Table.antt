-- The rules' examples (of 4.5, 1.4, 9.3 to 9.5, 9.8 and 9.9), each a question and its answer. Assumes nothing.
use Rattle.std.specs.Prelude.{List, [], ◌∷◌, map, ℕ, ℤ, pos, negsuc, ◌+ℤ◌}
use Rattle.base.specs.declared.edition.Edition.TheVariants.{Rust}
use Rattle.word.specs.Word.{wrap, quotient, remainder}
use Rattle.colour.specs.Decode.{decode_of}
use Rattle.flow.specs.Pointer.{state_number, of_number, attempt_of}
use Rattle.stack.specs.Instr.{roll}
use Rattle.machine.specs.Output.{Emit, char_out}

pub data Question : Type 0 where
  -- the eight attempts from a state, by their numbers
  order_from : ℕ → Question
  -- the instruction from one colour to another
  decodes : ℕ → ℕ → Question
  -- b and a of an instruction
  mod_of : ℤ → ℤ → Question
  div_of : ℤ → ℤ → Question
  add_of : ℤ → ℤ → Question
  -- a stack before Roll, top first
  roll_of : List ℤ → Question
  -- the top before CharOut
  char_out_of : ℤ → Question

-- outputs as numbers: of each its kind (1 char, 2 int) and its value
unfoldable pub emitted : List Emit → List ℤ
emitted [] = []
emitted (e ∷ es) = pos e.kind ∷ e.value ∷ emitted es

-- what the definitions say, in edition 1
abbrev pub answer : Question → List ℤ
answer (order_from s) = map (λ k. pos (state_number (attempt_of (of_number s) k))) (0 ∷ 1 ∷ 2 ∷ 3 ∷ 4 ∷ 5 ∷ 6 ∷ 7 ∷ [])
answer (decodes from to) = pos (decode_of from to) ∷ []
answer (mod_of b a) = remainder Rust b a
answer (div_of b a) = quotient b a
answer (add_of b a) = wrap (b +ℤ a) ∷ []
answer (roll_of s) = roll Rust s
answer (char_out_of v) = emitted (char_out v)

pub record PLine : Type 0 where
  pub asks : Question
  pub says : List ℤ

abbrev line : Question → List ℤ → PLine
line q a = record { asks = q; says = a }

-- an answer of naturals
abbrev these : List ℕ → List ℤ
these = map pos

-- colours: dark red 0, red 6, light red 12, light blue 16, light magenta 17; instructions: Push 1, Div 6, IntOut 17;
-- `negsuc n` is -(n + 1)
abbrev pub p_lines : List PLine
p_lines =
    line (order_from 0) (these (0 ∷ 1 ∷ 3 ∷ 2 ∷ 4 ∷ 5 ∷ 7 ∷ 6 ∷ []))
    ∷ line (order_from 3) (these (3 ∷ 2 ∷ 4 ∷ 5 ∷ 7 ∷ 6 ∷ 0 ∷ 1 ∷ []))
    ∷ line (decodes 12 6) (these (1 ∷ []))
    ∷ line (decodes 0 17) (these (17 ∷ []))
    ∷ line (decodes 16 12) (these (6 ∷ []))
    ∷ line (mod_of (pos 7) (negsuc 2)) (these (1 ∷ []))
    ∷ line (mod_of (negsuc 6) (pos 3)) (these (2 ∷ []))
    ∷ line (div_of (negsuc 6) (pos 2)) (negsuc 2 ∷ [])
    ∷ line (add_of (pos 9223372036854775807) (pos 1)) (negsuc 9223372036854775807 ∷ [])
    ∷ line (roll_of (these (1 ∷ 2 ∷ 6 ∷ 5 ∷ []))) (these (5 ∷ 6 ∷ []))
    ∷ line (roll_of (negsuc 0 ∷ these (3 ∷ 6 ∷ 5 ∷ 4 ∷ []))) (these (4 ∷ 6 ∷ 5 ∷ []))
    ∷ line (char_out_of (pos 4294967361)) (these (1 ∷ 65 ∷ []))
    ∷ line (char_out_of (pos 55296)) []
    ∷ []
