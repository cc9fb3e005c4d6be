-- Inner: what one call promises the loops that read and write whole. Assumes nothing.
use Rattle.std.specs.Prelude.{◌≡◌, Bool, true, false, List, ℕ, ◌+◌, ◌-◌, ◌≤◌, ◌<◌, length, take}
use Rattle.stream.specs.declared.Step.{Step}
use Rattle.stream.specs.declared.Step.TheVariants.{Moved, End, Again, Failed}

-- the bytes that a call moved
abbrev pub moved_of : Step → ℕ
moved_of (Moved n) = n
moved_of End = 0
moved_of Again = 0
moved_of Failed = 0

-- 1 for a call in vain that is made again
abbrev pub vain_of : Step → ℕ
vain_of (Moved n) = 0
vain_of End = 0
vain_of Again = 1
vain_of Failed = 0

-- after a call that moved bytes, and after one in vain, comes another
abbrev pub goes_on : Step → Bool
goes_on (Moved n) = true
goes_on End = false
goes_on Again = true
goes_on Failed = false

-- a call that has room for so many bytes moves no more, and it moves one at least, is in vain, or is the last
pub record Makes (room : ℕ) (step : Step) : Type 0 where
  pub fits : moved_of step ≤ room
  pub gains : goes_on step ≡ true → 0 < moved_of step + vain_of step

-- one read into a list from an index on: what stood before the index stands there still
pub record Reads (before : List ℕ) (from : ℕ) (step : Step) (after : List ℕ) : Type 0 where
  pub makes : Makes (length before - from) step
  pub kept : take from after ≡ take from before
  pub long : length after ≡ length before
