-- Counting in lists of numbers. Assumes nothing.
use Rattle.std.specs.Prelude.{Bool, cond, List, [], ◌∷◌, ◌++◌, map, ℕ, zero, suc, ◌+◌, eqb}

-- how often x stands in a list
unfoldable pub count : ℕ → List ℕ → ℕ
count x [] = 0
count x (a ∷ l) = cond (eqb a x) 1 0 + count x l

-- all numbers of a list together
unfoldable pub sum : List ℕ → ℕ
sum [] = 0
sum (a ∷ l) = a + sum l

-- the numbers below n, rising
unfoldable pub up_to : ℕ → List ℕ
up_to zero = []
up_to (suc n) = up_to n ++ (n ∷ [])

-- how often each number below n stands in a list
abbrev pub counts : ℕ → List ℕ → List ℕ
counts n l = map (λ x. count x l) (up_to n)

-- those that pass a test, in their order
unfoldable pub those : (ℕ → Bool) → List ℕ → List ℕ
those f [] = []
those f (a ∷ l) = cond (f a) (a ∷ those f l) (those f l)
