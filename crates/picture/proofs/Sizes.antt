-- How many codels cover a side, and that a codel's corner lies in the picture. Assumes nothing.
use Prim.Native.Nat.{ℕ, ◌+◌, ◌-◌, ◌*◌, ◌<◌}
use native.Mathlib.Nat.{div-mul-le_self, le-div_iff_mul-le, suc-mul, mul-le-mul_right}
use native.Mathlib.Omega.{arith}
use Rattle.picture.specs.Picture.{ceil}

-- a side of one pixel or more has a codel
pub side_pos : (n k : ℕ) → 0 < k → 0 < n → 0 < ceil n k
side_pos n k hk hn = (le-div_iff_mul-le {k = k} {x = 1} {y = n + (k - 1)} hk).1 (omega arith)

rounded : (n k : ℕ) → 0 < k → ceil n k * k < n + k
rounded n k h = omega (arith, div-mul-le_self (n + (k - 1)) k)

-- the corner of a codel lies in the picture
pub corner_in : (n k r : ℕ) → 0 < k → r < ceil n k → r * k < n
corner_in n k r h l = omega (arith, rounded n k h, mul-le-mul_right k l, suc-mul r k)
