-- A rule at each number below n, or at each entry of a table of one or two indices, from one test that antt computes.
-- Assumes nothing.
use mathlib.Core.Path.{◌≡◌, refl, sym, subst}
use mathlib.Core.Bool.{Bool, true, false}
use Prim.Native.Nat.{ℕ, zero, suc, ◌<◌}
use native.Mathlib.Omega.{arith}
use borrow.Author.Tests.{eqb-true, eqb-false}
use lib.Dec.{T, eqb}

abbrev pub both : Bool → Bool → Bool
both true b = b
both false b = false

-- the test f passes at each number below n
abbrev pub all : ℕ → (ℕ → Bool) → Bool
all zero f = true
all (suc n) f = both (f n) (all n f)

left : (a b : Bool) → T (both a b) → T a
left true b t = tt
left false b t = t

right : (a b : Bool) → T (both a b) → T b
right true b t = t
right false b t = absurd t

pub all_at : (n : ℕ) (f : ℕ → Bool) → T (all n f) → (k : ℕ) → k < n → T (f k)
all_at zero f t k h = absurd (none h)
  where
    none : k < 0 → ⊥
    none h = omega arith
all_at (suc n) f t k h = last (eqb k n) refl (all_at n f (right (f n) (all n f) t) k)
  where
    last : (b : Bool) → eqb k n ≡ b → (k < n → T (f k)) → T (f k)
    last true e below = subst (λ (m : ℕ). T (f m)) (sym (eqb-true k n e)) (left (f n) (all n f) t)
    last false e below = let ne = eqb-false k n e in below (omega arith)

-- the same at each two numbers, the one below m and the other below n
abbrev pub all_two : ℕ → ℕ → (ℕ → ℕ → Bool) → Bool
all_two m n f = all m (λ i. all n (f i))

pub all_two_at : (m n : ℕ) (f : ℕ → ℕ → Bool) → T (all_two m n f) → (i j : ℕ) → i < m → j < n → T (f i j)
all_two_at m n f t i j h k = all_at n (f i) (all_at m (λ x. all n (f x)) t i h) j k
