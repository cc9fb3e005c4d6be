-- Inner: pixels that are all alike. No public contract cites it. Assumes nothing.
use Rattle.std.specs.Prelude.{◌≡◌, List, ℕ, ◌*◌, ◌-◌, ◌<◌, ◌≤◌, get_or}

-- the bytes from an index up to another stand three places before too
abbrev pub RepeatedBytes : List ℕ → ℕ → ℕ → Type 0
RepeatedBytes pixels from to = (k : ℕ) → from ≤ k → k < to → (3 ≤ k) × (get_or pixels k 0 ≡ get_or pixels (k - 3) 0)

-- each pixel from one up to another has the bytes of the one before it
abbrev pub Repeats : List ℕ → ℕ → ℕ → Type 0
Repeats pixels from to = RepeatedBytes pixels (3 * from) (3 * to)
