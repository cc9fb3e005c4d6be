-- Outputs in two lent slices, their kinds (1 character, 2 number) and their values; past the count both hold 0 (rule 8.6).
-- Assumes nothing.
use Rattle.std.specs.Prelude.{◌≡◌, cond, List, [], ◌∷◌, ◌++◌, ℕ, zero, suc, min, ◌^◌, ◌<◌, ◌≤◌, length, get_or, ℤ, pos}
use Rattle.word.specs.Word.{residue}
use Rattle.text.specs.Utf8.{scalar}
use Rattle.stack.specs.Stack.{stack_of, Lies}
use Rattle.stack.specs.Instr as Instr
use Rattle.std.specs.Prelude.{Option, Some, None}

pub record Emit : Type 0 where
  pub kind : ℕ
  pub value : ℤ

-- the first n outputs, in order
unfoldable pub outs_of : List ℕ → List ℤ → ℕ → List Emit
outs_of kinds values zero = []
outs_of kinds values (suc n) = outs_of kinds values n ++ (record { kind = get_or kinds n 0; value = get_or values n (pos 0) } ∷ [])

-- n outputs stand in the two slices
pub record Holds (kinds : List ℕ) (values : List ℤ) (n : ℕ) : Type 0 where
  pub kinds_room : n ≤ length kinds
  pub values_room : n ≤ length values
  pub kinds_clean : (i : ℕ) → n ≤ i → get_or kinds i 0 ≡ 0
  pub values_clean : (i : ℕ) → n ≤ i → get_or values i (pos 0) ≡ pos 0

-- the slices and the count before and after a call that emits es
pub record Writes (es : List Emit) (kinds : List ℕ) (values : List ℤ) (n : ℕ) (kinds' : List ℕ) (values' : List ℤ) (n' : ℕ) : Type 0 where
  pub holds : Holds kinds' values' n'
  pub is : outs_of kinds' values' n' ≡ outs_of kinds values n ++ es

-- IntOut emits the number that it pops (rule 9.9)
abbrev pub int_out : ℤ → List Emit
int_out v = record { kind = 2; value = v } ∷ []

-- CharOut emits the low 32 bits of what it pops, where they are a Unicode scalar (rule 9.9)
unfoldable pub char : ℕ → List Emit
char u = cond (scalar u) (record { kind = 1; value = pos u } ∷ []) []

abbrev pub char_out : ℤ → List Emit
char_out v = char (residue v (2 ^ 32))

-- what f emits of the top; with no top, nothing
unfoldable pub of_top : (ℤ → List Emit) → List ℤ → List Emit
of_top f [] = []
of_top f (a ∷ s) = f a

-- an output instruction that emits f of the top: what it leaves
module _ (f : ℤ → List Emit) (stack : List ℤ) (d : ℕ) (kinds : List ℕ) (values : List ℤ) (n : ℕ) where
  pub record Keeps (stack' : List ℤ) (kinds' : List ℕ) (values' : List ℤ) (d' n' : ℕ) : Type 0 where
    pub lies : Lies stack' d'
    pub pops : stack_of stack' d' ≡ Instr.pop (stack_of stack d)
    pub writes : Writes (of_top f (stack_of stack d)) kinds values n kinds' values' n'

  -- there is no cell for what it would emit, and everything is as it was (rule 11.5)
  pub record Refuses (stack' : List ℤ) (kinds' : List ℕ) (values' : List ℤ) : Type 0 where
    pub same_stack : stack' ≡ stack
    pub same_kinds : kinds' ≡ kinds
    pub same_values : values' ≡ values
    pub full : min (length kinds) (length values) < length (outs_of kinds values n ++ of_top f (stack_of stack d))

  unfoldable pub Puts : List ℤ → List ℕ → List ℤ → Option (ℕ × ℕ) → Type 0
  Puts stack' kinds' values' (Some (d', n')) = Keeps stack' kinds' values' d' n'
  Puts stack' kinds' values' None = Refuses stack' kinds' values'
