-- Inner: what a pass over the codels makes of the table of the codels to leave by; no public contract cites it. Assumes
-- nothing.
use Rattle.std.specs.Prelude.{◌≡◌, cond, List, ℕ, ◌<◌, eqb, length, get_or, set}
use Rattle.flow.specs.Pointer.{state_number}
use Rattle.flow.specs.declared.PointerState.{PointerState}
use Rattle.table.specs.Layout.{exit_cell}
use Rattle.exit.specs.Leaving.{beats, Furthest}
use Rattle.exit.specs.LeaveTable.{Mapped}

-- a map, and cells that each hold some codel
pub record Cells (map best : List ℕ) (rows cols : ℕ) : Type 0 where
  pub mapped : Mapped map (length best) rows cols
  pub codels : (k : ℕ) → k < length best → get_or best k 0 < length map

-- the cell of the region of codel j in state s
abbrev pub cell_of : List ℕ → PointerState → ℕ → ℕ
cell_of map s j = exit_cell (get_or map j 0) (state_number s)

-- of codel i and the one kept so far: i, where j is of another region or beaten
unfoldable pub better : List ℕ → ℕ → ℕ → PointerState → ℕ → ℕ → ℕ
better map rows cols s i j = cond (eqb (get_or map j 0) (get_or map i 0)) (cond (beats rows cols s i j) i j) i

-- the cells after codel i is weighed
abbrev pub kept : List ℕ → List ℕ → ℕ → ℕ → PointerState → ℕ → List ℕ
kept map best rows cols s i = set best (cell_of map s i) (better map rows cols s i (get_or best (cell_of map s i) 0))

-- after n codels of a pass in state s: the best of these n for each region that they meet, the other cells as before
pub record Kept (map before after : List ℕ) (rows cols : ℕ) (s : PointerState) (n : ℕ) : Type 0 where
  pub same_length : length after ≡ length before
  pub best : (j : ℕ) → j < n → Furthest map rows cols s n (get_or map j 0) (get_or after (cell_of map s j) 0)
  pub others : (k : ℕ) → ((j : ℕ) → j < n → cell_of map s j ≡ k → ⊥) → get_or after k 0 ≡ get_or before k 0
