-- Laws of a table of refusals. Assumes nothing.
use mathlib.Core.Path.{◌≡◌, refl, sym, ap}
use native.Mathlib.Omega.{arith}
use mathlib.Core.Bool.{Bool, true, false}
use mathlib.Core.List.{List, [], ◌∷◌}
use Prim.Native.Nat.{ℕ, suc}
use Rattle.base.specs.Numbers.{Numbers, numbers, number_of, Row, row, first}

-- a refusal is not the answer 0
pub refused : (n : ℕ) (u v : List ℕ) → numbers (suc n) u ≡ numbers 0 v → ⊥
refused n u v e = let z : suc n ≡ 0 = cc in omega arith

-- where nothing is refused, a row's test fails, and nothing is refused by the rows below
pub passed : (b : Bool) (n : ℕ) (u v : List ℕ) (rows : List Row) (last : Numbers) → numbers 0 v ≡ first (row b (numbers (suc n) u) ∷ rows) last
    → (b ≡ false) × (numbers 0 v ≡ first rows last)
unfolding first
passed true n u v rows last e = absurd (refused n u v (sym e))
passed false n u v rows last e = (refl, e)

-- a row of another number than was answered
pub another : (b : Bool) (n k : ℕ) (u v : List ℕ) (rows : List Row) (last : Numbers) → (n ≡ k → ⊥)
    → first (row b (numbers n u) ∷ rows) last ≡ numbers k v → first rows last ≡ numbers k v
unfolding first
another true n k u v rows last d e = absurd (d (ap number_of e))
another false n k u v rows last d e = e

-- where the rows below don't answer so, the row's test holds
pub holds : (b : Bool) (n a : Numbers) (rows : List Row) (last : Numbers) → (first rows last ≡ a → ⊥) → first (row b n ∷ rows) last ≡ a → b ≡ true
unfolding first
holds true n a rows last d e = refl
holds false n a rows last d e = absurd (d e)

-- where no row is left, the last answer is given
pub no_row : (last : Numbers) → first [] last ≡ last
unfolding first
no_row last = refl
