-- The cells of a list: after a store, after a filling, and in two lists that agree. Assumes nothing.
use mathlib.Core.Path.{◌≡◌, sym, ap, ◌∙◌}
use mathlib.Core.Logic.{◌≢◌, ◌⊎◌, inl, inr, by_cases}
use mathlib.Core.List.{List}
use Prim.Native.Nat.{ℕ, ◌+◌, ◌-◌, ◌≤◌, ◌<◌}
use native.Mathlib.Decide.{ℕ_discrete, dec_lt}
use native.Mathlib.Omega.{arith}
use lib.ListN.{length, get_or, set, drop, replicate, length-replicate, get_or-replicate, get_or-append}
use lib.Seq.{get_or-set_same, get_or-set_other, ext_get_or, get_or-drop, drop_at}
use Rattle.base.specs.Lent.{filled}
use Rattle.base.proofs.Over.{filled_zero}

-- the stored value, or as it was
pub stored : (l : List ℕ) (i v j : ℕ) → i < length l
    → ((j ≡ i) × (get_or (set l i v) j 0 ≡ v)) ⊎ ((j ≢ i) × (get_or (set l i v) j 0 ≡ get_or l j 0))
stored l i v j h =
    by_cases (ℕ_discrete j i)
    (λ e. inl (e, ap (λ (x : ℕ). get_or (set l i v) x 0) e ∙ get_or-set_same l i v 0 h))
    (λ d. inr (d, get_or-set_other l i j v 0 d))

-- a list whose first n cells were filled
module _ (l : List ℕ) (n v : ℕ) {l' : List ℕ} (e : l' ≡ filled 0 n v l) where
  pub filled_at : (j : ℕ) → j < n → get_or l' j 0 ≡ v
  filled_at j h =
      rw (e, filled_zero l n v)
      (get_or-append (replicate n v) (drop n l) 0 j (omega (arith, length-replicate n v)) ∙ get_or-replicate n j v 0 h)

  pub filled_rest : drop n l' ≡ drop n l
  filled_rest = rw (e, filled_zero l n v) (drop_at (replicate n v) (drop n l) n (length-replicate n v))

-- two lists of one length that agree below n, and beyond, are equal
beyond : (n : ℕ) (l l' : List ℕ) → drop n l ≡ drop n l' → (i : ℕ) → n ≤ i → get_or l i 0 ≡ get_or l' i 0
beyond n l l' rest i h =
    let e : n + (i - n) ≡ i = omega arith in
    sym (ap (λ (x : ℕ). get_or l x 0) e)
    ∙ sym (get_or-drop n l (i - n) 0)
    ∙ ap (λ (k : List ℕ). get_or k (i - n) 0) rest
    ∙ get_or-drop n l' (i - n) 0
    ∙ ap (λ (x : ℕ). get_or l' x 0) e

pub same_list : (n : ℕ) (l l' : List ℕ) → length l ≡ length l' → ((i : ℕ) → i < n → get_or l i 0 ≡ get_or l' i 0)
    → drop n l ≡ drop n l' → l ≡ l'
same_list n l l' size below rest =
    ext_get_or 0 l l' size (λ i h. by_cases (dec_lt i n) (λ inside. below i inside) (λ past. beyond n l l' rest i (omega arith)))
