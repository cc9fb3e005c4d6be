-- A value above 1,024 is known only to be above: what the refusals ask for stays. Assumes nothing.
use mathlib.Core.Path.{◌≡◌, ◌∙◌, sym, ap}
use mathlib.Core.Bool.{Bool, true, false, cond}
use mathlib.Core.List.{List, [], ◌∷◌}
use Prim.Native.Nat.{ℕ, ◌+◌, ◌-◌, ◌*◌, ◌<◌, ◌≤◌}
use native.Mathlib.Omega.{arith}
use borrow.Author.Tests.{lt-ltb, le-ltb, ne_eqb}
use Rattle.base.specs.Limits.{wrong_side}
use Rattle.base.proofs.Tests.{by_size}
use Rattle.base.proofs.Sides.{side}
use Rattle.base.specs.Text.{digit}
use Rattle.netpbm.specs.Scan.{capped, value_of}

pub small : (n : ℕ) → n < 1025 → capped n ≡ n
unfolding capped
small n h = rw (lt-ltb n 1025 h)

pub large : (n : ℕ) → 1025 ≤ n → capped n ≡ 1025
unfolding capped
large n h = rw (le-ltb n 1025 h)

pub capped_most : (n : ℕ) → capped n ≤ 1025
capped_most n = by_size n 1025 (λ h. rw (small n h) (omega arith)) (λ h. rw (large n h) (omega arith))

-- a value that was capped stays
pub same : (n : ℕ) → n ≤ 1025 → capped n ≡ n
same n h = by_size n 1025 (small n) (λ k. let e : n ≡ 1025 = omega arith in large n k ∙ sym e)

-- one digit more
capped_step : (n k : ℕ) → capped (capped n * 10 + k) ≡ capped (n * 10 + k)
capped_step n k =
    by_size n 1025 (λ h. rw (small n h))
    (λ h. rw (large n h, large (1025 * 10 + k) (omega arith), large (n * 10 + k) (omega arith)))

-- the value of a whole numeral from a capped start
capped_value : (n m : ℕ) (l : List ℕ) → capped n ≡ capped m → capped (value_of n l) ≡ capped (value_of m l)
unfolding value_of
capped_value n m [] e = e
capped_value n m (b ∷ l) e = go (digit b) (capped_value (n * 10 + (b - 0x30)) (m * 10 + (b - 0x30)) l next)
  where
    next : capped (n * 10 + (b - 0x30)) ≡ capped (m * 10 + (b - 0x30))
    next =
        sym (capped_step n (b - 48))
        ∙ ap (λ (k : ℕ). capped (k * 10 + (b - 0x30))) e
        ∙ capped_step m (b - 48)

    go : (d : Bool) → capped (value_of (n * 10 + (b - 0x30)) l) ≡ capped (value_of (m * 10 + (b - 0x30)) l)
        → capped (cond d (value_of (n * 10 + (b - 0x30)) l) n) ≡ capped (cond d (value_of (m * 10 + (b - 0x30)) l) m)
    go true k = k
    go false k = e

pub capped_again : (n : ℕ) (l : List ℕ) → capped (value_of (capped n) l) ≡ capped (value_of n l)
capped_again n l = capped_value (capped n) n l (same (capped n) (capped_most n))

-- the refusals
pub capped_side : (n : ℕ) → wrong_side (capped n) ≡ wrong_side n
capped_side n =
    by_size n 1025 (λ h. rw (small n h))
    (λ h. rw (large n h, lt-ltb 1024 n (omega arith), ne_eqb n 0 (λ e. omega arith)))

pub capped_right : (n : ℕ) → wrong_side n ≡ false → capped n ≡ n
capped_right n e = let s = side n e in small n (omega arith)

pub capped_255 : (n : ℕ) → capped n ≡ 255 → n ≡ 255
capped_255 n e = by_size n 1025 (λ h. sym (small n h) ∙ e) (λ h. absurd (omega (arith, large n h)))
