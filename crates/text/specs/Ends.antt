-- Inner: where the white space at the ends of a line begins and ends, as the helpers of `trim` find it. No public contract
-- cites it. Assumes nothing.
use Rattle.std.specs.Prelude.{ℕ, ◌<◌, ◌≤◌, List, length, get_or, take, drop}
use Rattle.text.specs.Utf8.{Utf8, IsTail}
use Rattle.text.specs.White.{trim_start, trim_end}

-- where the white space at the front ends
pub record Front (s : List ℕ) (r : ℕ) : Type 0 where
  pub within : r ≤ length s
  pub text : (cs : List ℕ) → Utf8 s cs → Utf8 (drop r s) (trim_start cs)

-- where the white space at the back begins
pub record Back (s : List ℕ) (r : ℕ) : Type 0 where
  pub within : r ≤ length s
  pub text : (cs : List ℕ) → Utf8 s cs → Utf8 (take r s) (trim_end cs)

-- the last byte before `end` that is no continuation byte, or the first byte of all
pub record LastStart (s : List ℕ) (end r : ℕ) : Type 0 where
  pub before : r < end
  pub tails : (k : ℕ) → r < k → k < end → IsTail (get_or s k 0)
  pub lead : 0 < r → IsTail (get_or s r 0) → ⊥
