-- How many of the first n elements of a list are x: a region's size (rule 3.3), where the list is the map and x the region's
-- number. Assumes nothing.
use Rattle.std.specs.Prelude.{List, ℕ, take}
use Rattle.base.specs.Counting.{count}

unfoldable pub tally : ℕ → ℕ → List ℕ → ℕ
tally x n l = count x (take n l)
