-- Two outcomes that a contract allows for one input are equal: the forms that contracts share. Assumes nothing.
use mathlib.Core.Path.{◌≡◌, ◌∙◌, sym, refl}
use mathlib.Core.Bool.{Bool, true, false}
use mathlib.Core.List.{List}
use Prim.Native.Nat.{ℕ}
use Rattle.base.specs.Decides.{Decides}
use Rattle.base.specs.Lent.{Put}

-- a contract `r ≡ value`, or `now out.exit ≡ value`
pub equation_only : {A : Type 0} {value r r' : A} → r ≡ value → r' ≡ value → r ≡ r'
equation_only p q = p ∙ sym q

-- a contract `Decides P r`
pub decides_only : (P : Type 0) (r r' : Bool) → Decides P r → Decides P r' → r ≡ r'
decides_only P true true p q = refl
decides_only P true false p q = absurd (q p)
decides_only P false true p q = absurd (p q)
decides_only P false false p q = refl

-- a contract `Put d at word r d'`
pub put_only : {d word d' d'' : List ℕ} {at r r' : ℕ} → Put d at word r d' → Put d at word r' d'' → (r ≡ r') × (d' ≡ d'')
put_only p q = (p.next ∙ sym q.next, p.list ∙ sym q.list)
