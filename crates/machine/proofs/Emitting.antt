-- Outputs after one store in each slice, and what that says of an output instruction. Assumes nothing.
use mathlib.Core.Path.{◌≡◌, refl, sym, ◌∙◌}
use mathlib.Core.List.{List, [], ◌∷◌, append-nil}
use Prim.Native.Nat.{ℕ, zero, suc, min, ◌-◌, ◌<◌, ◌≤◌}
use native.Mathlib.Omega.{arith}
use lib.ListN.{length, get_or, set, length-set, length-append}
use lib.Seq.{get_or-set_same, get_or-set_other}
use lib.IntN.{ℤ, pos}
use Rattle.stack.specs.Stack.{stack_of, Lies, Does}
use Rattle.stack.specs.Instr as Instr
use Rattle.stack.proofs.Cells.{apart, apart', one}
use Rattle.machine.specs.Output.{Emit, outs_of, Holds, Writes, of_top, Keeps, Refuses, Puts}
use Rattle.std.specs.Prelude.{Option, Some, None}

-- a store at or past the count is not seen
outs_set : (kinds : List ℕ) (values : List ℤ) (m n k : ℕ) (v : ℤ) → m ≤ n
    → outs_of (set kinds n k) (set values n v) m ≡ outs_of kinds values m
unfolding outs_of
outs_set kinds values zero n k v h = refl
outs_set kinds values (suc m) n k v h =
    rw (
      get_or-set_other kinds n m k 0 (apart h),
      get_or-set_other values n m v (pos 0) (apart h),
      outs_set kinds values m n k v (omega arith),
    )
    refl

pub emits : (kinds : List ℕ) (values : List ℤ) (n k : ℕ) (v : ℤ) → Holds kinds values n → n < length kinds
    → n < length values
    → Writes (record { kind = k; value = v } ∷ []) kinds values n (set kinds n k) (set values n v) (suc n)
unfolding outs_of
emits kinds values n k v h p q = record {
  holds = record {
    kinds_room = rw length-set p;
    values_room = rw length-set q;
    kinds_clean = λ i l. get_or-set_other kinds n i k 0 (apart' l) ∙ h.kinds_clean i (omega arith);
    values_clean = λ i l. get_or-set_other values n i v (pos 0) (apart' l) ∙ h.values_clean i (omega arith);
  };
  is = rw (get_or-set_same kinds n k 0 p, get_or-set_same values n v (pos 0) q, outs_set kinds values n n k v (omega arith)) refl;
}

pub outs_length : (kinds : List ℕ) (values : List ℤ) (n : ℕ) → length (outs_of kinds values n) ≡ n
unfolding outs_of
outs_length kinds values zero = refl
outs_length kinds values (suc n) =
    omega (
      arith,
      outs_length kinds values n,
      length-append (outs_of kinds values n) (record { kind = get_or kinds n 0; value = get_or values n (pos 0) } ∷ []),
    )

-- what is emitted of the top, where there is one
pub top_is : (f : ℤ → List Emit) (stack : List ℤ) (d : ℕ) → 0 < d → of_top f (stack_of stack d) ≡ f (get_or stack (d - 1) (pos 0))
unfolding of_top
top_is f stack d h = rw (one stack d h) refl

-- no cell is left for e
pub no_cell : (e : Emit) (stack : List ℤ) (d : ℕ) (kinds : List ℕ) (values : List ℤ) (n : ℕ) → 0 < d
    → min (length kinds) (length values) ≤ n → Refuses (λ _. e ∷ []) stack d kinds values n stack kinds values
no_cell e stack d kinds values n h m = record {
  same_stack = refl;
  same_kinds = refl;
  same_values = refl;
  full = rw (top_is (λ _. e ∷ []) stack d h, length-append) (omega (arith, outs_length kinds values n));
}

-- the top goes and es comes
pub kept : (f : ℤ → List Emit) {stack stack' : List ℤ} {d d' : ℕ} {kinds kinds' : List ℕ} {values values' : List ℤ} {n n' : ℕ}
    {es : List Emit}
    → of_top f (stack_of stack d) ≡ es → Does Instr.pop stack d stack' d' → Writes es kinds values n kinds' values' n'
    → Keeps f stack d kinds values n stack' kinds' values' d' n'
kept f e p w = record { lies = p.lies; pops = p.is; writes = rw e w }

-- nothing is emitted
pub nothing : {kinds : List ℕ} {values : List ℤ} {n : ℕ} → Holds kinds values n → Writes [] kinds values n kinds values n
nothing h = record { holds = h; is = sym (append-nil _) }

-- one instruction's promise from another's that emits the same of this top
pub same_top : (f g : ℤ → List Emit) (stack : List ℤ) (d : ℕ) (kinds : List ℕ) (values : List ℤ) (n : ℕ)
    (stack' : List ℤ) (kinds' : List ℕ) (values' : List ℤ) (r : Option (ℕ × ℕ))
    → of_top f (stack_of stack d) ≡ of_top g (stack_of stack d) → Puts g stack d kinds values n stack' kinds' values' r
    → Puts f stack d kinds values n stack' kinds' values' r
unfolding Puts
same_top f g stack d kinds values n stack' kinds' values' (Some (d', n')) e p =
    record { lies = p.lies; pops = p.pops; writes = rw e p.writes }
same_top f g stack d kinds values n stack' kinds' values' None e p = record {
  same_stack = p.same_stack;
  same_kinds = p.same_kinds;
  same_values = p.same_values;
  full = rw e p.full;
}

-- with no top nothing happens
pub empty_kept : (f : ℤ → List Emit) {stack : List ℤ} {d : ℕ} {kinds : List ℕ} {values : List ℤ} {n : ℕ} → d ≡ 0
    → Lies stack d → Holds kinds values n → Keeps f stack d kinds values n stack kinds values d n
unfolding Instr.pop stack_of of_top
empty_kept f e l h = record { lies = l; pops = rw e refl; writes = rw e (nothing h) }
