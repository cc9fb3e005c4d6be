-- A stack in a lent slice of cells: cell 0 is the bottom, and the cells past the depth are 0 (rule 8.6). Assumes nothing.
use Rattle.std.specs.Prelude.{Option, Some, None, ◌≡◌, List, [], ◌∷◌, ℕ, zero, suc, ◌<◌, ◌≤◌, length, get_or, ℤ, pos}

-- the first d cells, top first
unfoldable pub stack_of : List ℤ → ℕ → List ℤ
stack_of cells zero = []
stack_of cells (suc d) = get_or cells d (pos 0) ∷ stack_of cells d

-- a stack of depth d lies in the cells
pub record Lies (cells : List ℤ) (d : ℕ) : Type 0 where
  pub room : d ≤ length cells
  pub clean : (i : ℕ) → d ≤ i → get_or cells i (pos 0) ≡ pos 0

-- the cells and the depth before and after a call that does f to the stack
pub record Does (f : List ℤ → List ℤ) (cells : List ℤ) (d : ℕ) (cells' : List ℤ) (d' : ℕ) : Type 0 where
  pub lies : Lies cells' d'
  pub is : stack_of cells' d' ≡ f (stack_of cells d)

-- there is no room for the stack after it, and everything is as it was (rule 11.4)
pub record Overflows (f : List ℤ → List ℤ) (cells : List ℤ) (d : ℕ) (cells' : List ℤ) : Type 0 where
  pub same : cells' ≡ cells
  pub full : length cells < length (f (stack_of cells d))

-- a call that does f to the stack where there is room, and gives the depth
unfoldable pub Grows : (List ℤ → List ℤ) → List ℤ → ℕ → List ℤ → Option ℕ → Type 0
Grows f cells d cells' (Some d') = Does f cells d cells' d'
Grows f cells d cells' None = Overflows f cells d cells'
