-- The codel one step along dp, or none at the edge of a grid (rules 4.3, 14.6). Assumes nothing.
use Rattle.std.specs.Prelude.{Bool, true, false, ℕ, zero, suc, ◌+◌, ◌-◌, ltb, Option, Some, None}

abbrev pub or_outside : Bool → ℕ → ℕ → Option (ℕ × ℕ)
or_outside true r c = Some (r, c)
or_outside false r c = None

-- from codel (r, c) of a grid of rows and columns; dp right, down, left, up
unfoldable pub ahead_of : ℕ → ℕ → ℕ → ℕ → ℕ → Option (ℕ × ℕ)
ahead_of rows cols r c zero = or_outside (ltb (c + 1) cols) r (c + 1)
ahead_of rows cols r c (suc zero) = or_outside (ltb (r + 1) rows) (r + 1) c
ahead_of rows cols r c (suc (suc zero)) = or_outside (ltb 0 c) r (c - 1)
ahead_of rows cols r c (suc (suc (suc d))) = or_outside (ltb 0 r) (r - 1) c
