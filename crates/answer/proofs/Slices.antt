-- The stack and the outputs of a store, read back from the slices that hold them. Assumes nothing.
use mathlib.Core.Path.{◌≡◌, refl, sym, subst, ap₂, ◌∙◌}
use mathlib.Core.List.{List, [], ◌∷◌, ◌++◌, map, reverse, reverse-cons}
use Prim.Native.Nat.{ℕ, zero, suc, ◌-◌, ◌<◌, ◌≤◌}
use native.Mathlib.Nat.{le_of_suc-le-suc, not-suc-le-zero}
use native.Mathlib.Omega.{arith}
use lib.ListN.{length, get_or, take, replicate, length-append, length-map}
use lib.Seq.{append_snoc, get_or_at, take-suc, take-length}
use lib.IntN.{ℤ, pos}
use Rattle.stack.specs.Stack.{stack_of}
use Rattle.machine.specs.Output.{Emit, outs_of}
use Rattle.interpreter.specs.Outcome.{cells_of, kinds_of, values_of}

reverse_length : (s : List ℤ) → length (reverse s) ≡ length s
reverse_length [] = refl
reverse_length (v ∷ s) = rw (reverse-cons v s, length-append (reverse s) (v ∷ []), reverse_length s) (omega arith)

stack_on : (s rest : List ℤ) → stack_of (reverse s ++ rest) (length s) ≡ s
unfolding stack_of
stack_on [] rest = refl
stack_on (v ∷ s) rest =
    let e : reverse (v ∷ s) ++ rest ≡ reverse s ++ (v ∷ rest) = rw (reverse-cons v s) (append_snoc (reverse s) v rest) in
    subst (λ (l : List ℤ). stack_of l (suc (length s)) ≡ v ∷ s) (sym e)
    (ap₂ (λ (x : ℤ) (l : List ℤ). x ∷ l) (get_or_at (reverse s) v rest (pos 0) (length s) (reverse_length s)) (stack_on s (v ∷ rest)))

pub stack_back : (room : ℕ) (s : List ℤ) → stack_of (cells_of room s) (length s) ≡ s
stack_back room s = stack_on s (replicate (room - length s) (pos 0))

pub stack_few : (room : ℕ) (s : List ℤ) → length (cells_of room s) ≡ room → length s ≤ room
stack_few room s e = omega (arith, length-append (reverse s) (replicate (room - length s) (pos 0)), reverse_length s)

-- one field of the outputs, and what stands past them
field-at : {B : Type 0} (f : Emit → B) (outs : List Emit) (rest : List B) (z : B) (d : Emit) (n : ℕ) → n < length outs
    → get_or (map f outs ++ rest) n z ≡ f (get_or outs n d)
field-at f [] rest z d n h = absurd (not-suc-le-zero h)
field-at f (e ∷ outs) rest z d zero h = refl
field-at f (e ∷ outs) rest z d (suc n) h = field-at f outs rest z d n (le_of_suc-le-suc h)

module _ (outs : List Emit) (kinds : List ℕ) (values : List ℤ) where
  none : Emit
  none = record { kind = 0; value = pos 0 }

  first_outs : (n : ℕ) → n ≤ length outs → outs_of (map (λ e. e.kind) outs ++ kinds) (map (λ e. e.value) outs ++ values) n ≡ take n outs
  unfolding outs_of
  first_outs zero h = refl
  first_outs (suc n) h =
      let k = field-at (λ e. e.kind) outs kinds 0 none n h in
      let v = field-at (λ e. e.value) outs values (pos 0) none n h in
      ap₂ (λ (l : List Emit) (e : Emit). l ++ (e ∷ [])) (first_outs n (omega arith)) (λ i. record { kind = k i; value = v i })
      ∙ sym (take-suc outs n none h)

pub outs_back : (k v : ℕ) (outs : List Emit) → outs_of (kinds_of k outs) (values_of v outs) (length outs) ≡ outs
outs_back k v outs = first_outs outs (replicate (k - length outs) 0) (replicate (v - length outs) (pos 0)) (length outs) (omega arith) ∙ take-length outs

pub outs_few : (room : ℕ) (outs : List Emit) → length (kinds_of room outs) ≡ room → length outs ≤ room
outs_few room outs e =
    omega (arith, length-append (map (λ (e : Emit). e.kind) outs) (replicate (room - length outs) 0), length-map outs (λ (e : Emit). e.kind))
