-- Two constructors are never equal: `clash cc`, where `cc` makes 0 of 1 from an equation of two. Assumes nothing.
use mathlib.Core.Path.{◌≡◌}
use Prim.Native.Nat.{ℕ}
use native.Mathlib.Omega.{arith}

pub clash : {A : Type 0} → ◌≡◌ {A = ℕ} 0 1 → A
clash e = absurd (never e)
  where
    never : ◌≡◌ {A = ℕ} 0 1 → ⊥
    never e = omega arith
