-- The table of the codels to leave by (rule 4.2), in the exit cells of the regions. Assumes nothing.
use Rattle.std.specs.Prelude.{◌≡◌, List, ℕ, ◌*◌, ◌<◌, ◌≤◌, length, get_or}
use Rattle.flow.specs.Pointer.{of_number}
use Rattle.table.specs.Layout.{exits_room, exit_at}
use Rattle.exit.specs.Leaving.{LeavesBy}

-- a map of a grid that is not empty: at most 65,536 codels (rule 2.1), no more regions than codels, and room for the exits
-- (rule 7.4)
pub record Mapped (map : List ℕ) (cells rows cols : ℕ) : Type 0 where
  pub grid : length map ≡ rows * cols
  pub cols_pos : 0 < cols
  pub some : 0 < length map
  pub few : length map ≤ 65536
  pub numbered : (k : ℕ) → k < length map → get_or map k 0 < length map
  pub room : exits_room (length map) ≤ cells

-- in the first n states: the codel to leave by in the exit of each region that has a codel, the other exits as before
pub record AllKept (map before after : List ℕ) (rows cols n : ℕ) : Type 0 where
  pub same_length : length after ≡ length before
  pub leaves : (s : ℕ) → s < n → (j : ℕ) → j < length map → LeavesBy map rows cols (of_number s) (get_or map j 0) (exit_at after (get_or map j 0) s)
  pub others : (r s : ℕ) → s < 8 → (s < n → (j : ℕ) → j < length map → get_or map j 0 ≡ r → ⊥) → exit_at after r s ≡ exit_at before r s
