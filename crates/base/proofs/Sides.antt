-- What a side that is not refused may be relied on for. Assumes nothing.
use mathlib.Core.Path.{◌≡◌}
use mathlib.Core.Bool.{false}
use Prim.Native.Nat.{ℕ, ◌*◌, ◌<◌, ◌≤◌}
use native.Mathlib.Nat.{mul-le-mul}
use native.Mathlib.Omega.{arith}
use borrow.Author.Tests.{eqb-false, ltb-false}
use lib.Dec.{eqb, ltb}
use Rattle.base.specs.Limits.{wrong_side}
use Rattle.base.proofs.Tests.{neither}

pub side : (n : ℕ) → wrong_side n ≡ false → (0 < n) × (n ≤ 1024)
side n e =
    let d = neither (eqb n 0) (ltb 1024 n) e in
    let z : n ≡ 0 → ⊥ = eqb-false n 0 d.0 in
    (omega (arith, z), omega (arith, ltb-false 1024 n d.1))

-- a picture of such sides has at most 2 ^ 20 pixels
pub area : {h w : ℕ} → h ≤ 1024 → w ≤ 1024 → h * w ≤ 1048576
area a b = mul-le-mul a b
