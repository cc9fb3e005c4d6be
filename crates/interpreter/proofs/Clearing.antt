-- A slice that was filled with z to its end. Assumes nothing.
use mathlib.Core.Path.{◌≡◌}
use mathlib.Core.List.{List}
use Prim.Native.Nat.{ℕ}
use native.Mathlib.Omega.{arith}
use lib.ListN.{get_or, replicate, length-replicate, get_or-replicate, get_or-eq_default}
use Rattle.base.proofs.Tests.{by_size}

-- every cell holds z
abbrev pub Clean : {A : Type 0} → A → List A → Type 0
Clean z cells = (i : ℕ) → get_or cells i z ≡ z

module _ {A : Type 0} (z : A) where
  pub replicated : (n : ℕ) → Clean z (replicate n z)
  replicated n i =
      by_size i n (get_or-replicate n i z z)
      (λ h. get_or-eq_default (replicate n z) z (omega (arith, length-replicate n z)))
