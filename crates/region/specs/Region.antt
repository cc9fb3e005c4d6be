-- The regions of a grid of codels, and their numbers (rules 3.1, 3.2). Assumes nothing.
use Rattle.std.specs.Prelude.{◌≡◌, List, ℕ, ◌≤◌, ◌<◌, length, get_or}
use Rattle.region.specs.Grid.{Grid, count, Adjacent}

-- there is a path from i to a codel, by steps between codels of one colour (rule 3.1)
pub data Joined (g : Grid) (i : ℕ) : ℕ → Type 0 where
  here : Joined g i i
  on : {j k : ℕ} → Joined g i j → Adjacent g j k → g.colour j ≡ g.colour k → Joined g i k

-- a codel before i has the number r
abbrev pub Earlier : List ℕ → ℕ → ℕ → Type 0
Earlier m i r = (j : ℕ) × (j < i) × (get_or m j 0 ≡ r)

-- the map (rule 7.1): m has the region number of each codel of g, and n is how many regions there are
pub record IsMap (g : Grid) (m : List ℕ) (n : ℕ) : Type 0 where
  pub long : count g ≤ length m
  -- two codels have one number exactly when they are joined
  pub same : (i j : ℕ) → i < count g → j < count g → Joined g i j → get_or m i 0 ≡ get_or m j 0
  pub apart : (i j : ℕ) → i < count g → j < count g → get_or m i 0 ≡ get_or m j 0 → Joined g i j
  -- they are numbered by their first codels (rule 3.2): each smaller number has come before
  pub order : (i : ℕ) → i < count g → (r : ℕ) → r < get_or m i 0 → Earlier m i r
  -- the numbers are those below n
  pub below : (i : ℕ) → i < count g → get_or m i 0 < n
  pub each : (r : ℕ) → r < n → Earlier m (count g) r
