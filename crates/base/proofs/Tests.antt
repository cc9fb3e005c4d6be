-- Laws of tests: `||`, `&&`, and an order of two numbers. Assumes nothing.
use mathlib.Core.Path.{◌≡◌, refl}
use mathlib.Core.Bool.{Bool, true, false, ◌&&◌, ◌||◌, true≢false, false≢true}
use native.Mathlib.Decide.{dec_lt}
use native.Mathlib.Omega.{arith}
use Prim.Native.Nat.{ℕ, ◌<◌, ◌≤◌}

pub neither : (a b : Bool) → (a || b) ≡ false → (a ≡ false) × (b ≡ false)
neither true b e = absurd (true≢false e)
neither false b e = (refl, e)

pub and_both : (a b : Bool) → (a && b) ≡ true → (a ≡ true) × (b ≡ true)
and_both true b e = (refl, e)
and_both false b e = absurd (false≢true e)

-- either n is below m, or it is not
pub by_size : {P : Type 0} (n m : ℕ) → (n < m → P) → (m ≤ n → P) → P
by_size {P} n m f g = go (dec_lt n m)
  where
    go : Dec (n < m) → P
    go (yes l) = f l
    go (no l) = g (omega (arith, l))
