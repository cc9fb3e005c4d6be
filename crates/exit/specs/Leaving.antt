-- The codel to leave a region by: the furthest toward dp, and of several the furthest to cc's side (rules 4.2, 14.5). Assumes
-- nothing.
use Rattle.std.specs.Prelude.{◌≡◌, Bool, true, false, cond, List, ℕ, zero, suc, ◌+◌, ◌-◌, ◌*◌, ◌/◌, ◌%◌, ◌<◌, ltb, length, get_or}
use Rattle.flow.specs.declared.PointerState.{PointerState}

-- how many codels of a grid of rows and columns lie behind codel (r, c) in its row or column, facing right, down, left, up
unfoldable pub behind : ℕ → ℕ → ℕ → ℕ → ℕ → ℕ
behind rows cols zero r c = c
behind rows cols (suc zero) r c = r
behind rows cols (suc (suc zero)) r c = cols - 1 - c
behind rows cols (suc (suc (suc d))) r c = rows - 1 - r

-- the direction that cc means, facing dp: left is a quarter turn back (three on), right is one on
abbrev pub side_of : PointerState → ℕ
side_of s = (s.dp + 3 + 2 * s.cc) % 4

-- of two pairs of distances the first decides, and the second where the first are equal
abbrev pub further : ℕ → ℕ → ℕ → ℕ → Bool
further a b a' b' = cond (ltb a' a) true (cond (ltb a a') false (ltb b' b))

-- how far codel i, counted row by row, lies toward d
abbrev pub reach : ℕ → ℕ → ℕ → ℕ → ℕ
reach rows cols d i = behind rows cols d (i / cols) (i % cols)

-- codel i lies further toward dp than codel j, or as far and further toward cc
unfoldable pub beats : ℕ → ℕ → PointerState → ℕ → ℕ → Bool
beats rows cols s i j =
    further (reach rows cols s.dp i) (reach rows cols (side_of s) i) (reach rows cols s.dp j) (reach rows cols (side_of s) j)

-- codel i is of the region, and none of the first n codels that are of the region beats it
pub record Furthest (map : List ℕ) (rows cols : ℕ) (s : PointerState) (n region i : ℕ) : Type 0 where
  pub codel : i < length map
  pub own : get_or map i 0 ≡ region
  pub unbeaten : (j : ℕ) → j < n → get_or map j 0 ≡ region → beats rows cols s j i ≡ false

-- codel i is the one to leave the region by
abbrev pub LeavesBy : List ℕ → ℕ → ℕ → PointerState → ℕ → ℕ → Type 0
LeavesBy map rows cols s region i = Furthest map rows cols s (length map) region i
