-- How many of a list's first elements are x, as the list is written to.
-- Assumes nothing.
use mathlib.Core.Path.{◌≡◌, refl}
use mathlib.Core.Bool.{cond}
use mathlib.Core.Logic.{◌≢◌}
use mathlib.Core.List.{List, [], ◌∷◌}
use Prim.Native.Nat.{ℕ, zero, suc, ◌+◌, ◌≤◌, ◌<◌, suc-le-suc}
use native.Mathlib.Numerals.{add-one}
use native.Mathlib.Nat.{not-suc-le-zero, le_of_suc-le-suc}
use native.Mathlib.Omega.{arith}
use lib.Dec.{eqb}
use lib.ListN.{length, get_or, set, take, length-take}
use borrow.Author.Tests.{eq-eqb, ne_eqb}
use Rattle.base.specs.Counting.{count}
use Rattle.base.proofs.CountingLaws.{count_most}
use Rattle.region.specs.Tally.{tally}

pub tally_most : (x n : ℕ) (l : List ℕ) → tally x n l ≤ n
unfolding tally
tally_most x n l = omega (arith, count_most x (take n l), length-take n l)

-- an x that is overwritten is one less
pub tally_set : (x n : ℕ) (l : List ℕ) (j k : ℕ) → j < n → j < length l → get_or l j 0 ≡ x → k ≢ x
    → tally x n (set l j k) + 1 ≡ tally x n l
unfolding tally count
tally_set x zero l j k h i e d = absurd (not-suc-le-zero h)
tally_set x (suc n) [] j k h i e d = absurd (not-suc-le-zero i)
tally_set x (suc n) (y ∷ l) zero k h i e d = rw (eq-eqb y x e, ne_eqb k x d) (omega arith)
tally_set x (suc n) (y ∷ l) (suc j) k h i e d = omega (arith, tally_set x n l j k (le_of_suc-le-suc h) (le_of_suc-le-suc i) e d)

-- where x stands, there is one
pub tally_some : (x n : ℕ) (l : List ℕ) (j : ℕ) → j < n → j < length l → get_or l j 0 ≡ x → 1 ≤ tally x n l
tally_some x n l j h i e =
    let d : x + 1 ≢ x = omega arith in
    omega (arith, tally_set x n l j (x + 1) h i e d)

-- one element more
tally_suc : (x n : ℕ) (l : List ℕ) → n < length l → tally x (suc n) l ≡ cond (eqb (get_or l n 0) x) 1 0 + tally x n l
unfolding tally count
tally_suc x n [] h = absurd (not-suc-le-zero h)
tally_suc x zero (y ∷ l) h = refl
tally_suc x (suc n) (y ∷ l) h = omega (arith, tally_suc x n l (le_of_suc-le-suc h))

pub tally_hit : (x n : ℕ) (l : List ℕ) → n < length l → get_or l n 0 ≡ x → tally x (n + 1) l ≡ tally x n l + 1
tally_hit x n l h e = rw (add-one n, tally_suc x n l h, eq-eqb (get_or l n 0) x e) (omega arith)

pub tally_miss : (x n : ℕ) (l : List ℕ) → n < length l → get_or l n 0 ≢ x → tally x (n + 1) l ≡ tally x n l
tally_miss x n l h e = rw (add-one n, tally_suc x n l h, ne_eqb (get_or l n 0) x e) (omega arith)

pub tally_none : (x n : ℕ) (l : List ℕ) → ((j : ℕ) → j < n → get_or l j 0 ≢ x) → tally x n l ≡ 0
unfolding tally count
tally_none x zero l h = refl
tally_none x (suc n) [] h = refl
tally_none x (suc n) (y ∷ l) h = rw (ne_eqb y x (h 0 (omega arith))) (omega (arith, tally_none x n l (λ j k. h (suc j) (suc-le-suc k))))
