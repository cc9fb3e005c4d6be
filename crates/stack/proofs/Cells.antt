-- A stack in cells after one store, and what that says of an instruction. Assumes nothing.
use mathlib.Core.Path.{◌≡◌, refl, sym, ap, ◌∙◌}
use mathlib.Core.List.{List, [], ◌∷◌}
use Prim.Native.Nat.{ℕ, zero, suc, ◌-◌, ◌<◌, ◌≤◌}
use native.Mathlib.Decide.{dec_lt}
use native.Mathlib.Omega.{arith}
use lib.ListN.{length, get_or, set, drop, length-set}
use lib.Seq.{get_or-set_same, get_or-set_other}
use lib.IntN.{ℤ, pos}
use Rattle.base.specs.declared.edition.Edition.{Edition}
use Rattle.stack.specs.Stack.{stack_of, Lies, Does, Overflows}
use Rattle.stack.specs.Instr as Instr
use Rattle.stack.specs.Instr.{binary, in_place, undone}

-- two numbers in an order differ
pub apart : {a b : ℕ} → a < b → a ≡ b → ⊥
apart h e = omega arith

pub apart' : {a b : ℕ} → b < a → a ≡ b → ⊥
apart' h e = omega arith

-- a store at or past the depth is not seen
pub stack_of_set : (cells : List ℤ) (d i : ℕ) (v : ℤ) → d ≤ i → stack_of (set cells i v) d ≡ stack_of cells d
unfolding stack_of
stack_of_set cells zero i v h = refl
stack_of_set cells (suc d) i v h =
    let e = get_or-set_other cells i d v (pos 0) (apart h) in
    let r = stack_of_set cells d i v (omega arith) in
    cc

-- the top and what lies below it
pub stack_of_top : (cells : List ℤ) (d : ℕ) (v : ℤ) → d < length cells → stack_of (set cells d v) (suc d) ≡ v ∷ stack_of cells d
unfolding stack_of
stack_of_top cells d v h =
    let e = get_or-set_same cells d v (pos 0) h in
    let r = stack_of_set cells d d v (omega arith) in
    cc

-- a store of v at the index e, where the cells past e are clean
stored : (cells : List ℤ) (e d : ℕ) (v : ℤ) → ((i : ℕ) → d ≤ i → get_or cells i (pos 0) ≡ pos 0) → e < d → (i : ℕ) → d ≤ i
    → get_or (set cells e v) i (pos 0) ≡ pos 0
stored cells e d v k h i p = get_or-set_other cells e i v (pos 0) (apart' (omega arith)) ∙ k i p

pub pushes : (cells : List ℤ) (d : ℕ) (v : ℤ) → Lies cells d → d < length cells
    → Does (Instr.push v) cells d (set cells d v) (suc d)
pushes cells d v l h = record {
  lies = record {
    room = rw length-set h;
    clean = stored cells d (suc d) v (λ i p. l.clean i (omega arith)) (omega arith);
  };
  is = stack_of_top cells d v h;
}

pub puts : (cells : List ℤ) (d : ℕ) (v : ℤ) → Lies cells (suc d) → Does (λ s. v ∷ drop 1 s) cells (suc d) (set cells d v) (suc d)
unfolding stack_of
puts cells d v l = record {
  lies = record {
    room = rw length-set l.room;
    clean = stored cells d (suc d) v l.clean (omega arith);
  };
  is = stack_of_top cells d v l.room;
}

pub pops : (cells : List ℤ) (d : ℕ) → Lies cells (suc d) → Does Instr.pop cells (suc d) (set cells d (pos 0)) d
unfolding Instr.pop stack_of
pops cells d l = record {
  lies = record {
    room = rw length-set (omega (arith, l.room));
    clean = λ i p. go i (dec_lt d i) p;
  };
  is = stack_of_set cells d d (pos 0) (omega arith);
}
  where
    go : (i : ℕ) → Dec (d < i) → d ≤ i → get_or (set cells d (pos 0)) i (pos 0) ≡ pos 0
    go i (yes q) p = get_or-set_other cells d i (pos 0) (pos 0) (apart' q) ∙ l.clean i q
    go i (no q) p =
        let e : i ≡ d = omega arith in
        rw e (get_or-set_same cells d (pos 0) (pos 0) l.room)

-- the same at d - 1, as the code has it
less_one : (d : ℕ) → suc d - 1 ≡ d
less_one d = omega arith

less_two : (d : ℕ) → suc (suc d) - 2 ≡ d
less_two d = omega arith

pub pops_at : (cells : List ℤ) (d : ℕ) → 0 < d → Lies cells d → Does Instr.pop cells d (set cells (d - 1) (pos 0)) (d - 1)
pops_at cells zero h l = absurd (omega arith)
pops_at cells (suc d) h l = rw less_one (pops cells d l)

pub puts_at : (cells : List ℤ) (d : ℕ) (v : ℤ) → 0 < d → Lies cells d → Does (λ s. v ∷ drop 1 s) cells d (set cells (d - 1) v) d
puts_at cells zero v h l = absurd (omega arith)
puts_at cells (suc d) v h l = rw less_one (puts cells d v l)

-- one after the other
pub then : {f g h : List ℤ → List ℤ} {c₀ c₁ c₂ : List ℤ} {d₀ d₁ d₂ : ℕ} → Does f c₀ d₀ c₁ d₁ → Does g c₁ d₁ c₂ d₂
    → ((s : List ℤ) → g (f s) ≡ h s) → Does h c₀ d₀ c₂ d₂
then {g = g} p q e = record { lies = q.lies; is = q.is ∙ ap g p.is ∙ e _ }

-- a stack of two or more, by its cells
pub two : (cells : List ℤ) (d : ℕ) → 2 ≤ d
    → stack_of cells d ≡ get_or cells (d - 1) (pos 0) ∷ (get_or cells (d - 2) (pos 0) ∷ stack_of cells (d - 2))
unfolding stack_of
two cells zero h = absurd (omega arith)
two cells (suc zero) h = absurd (omega arith)
two cells (suc (suc d)) h = rw (less_one (suc d), less_two d) refl

pub one : (cells : List ℤ) (d : ℕ) → 0 < d → stack_of cells d ≡ get_or cells (d - 1) (pos 0) ∷ stack_of cells (d - 1)
unfolding stack_of
one cells zero h = absurd (omega arith)
one cells (suc d) h = rw less_one refl

-- an instruction on two values: too few of them, one that left v, and one that left nothing
module _ (e : Edition) (f : ℤ → ℤ → List ℤ) where
  pub few : (cells : List ℤ) (d : ℕ) → d < 2 → Lies cells d → Does (binary e f) cells d cells d
  unfolding binary stack_of
  few cells zero h l = record { lies = l; is = refl }
  few cells (suc zero) h l = record { lies = l; is = refl }
  few cells (suc (suc d)) h l = absurd (omega arith)

  pub left : {cells cells' : List ℤ} {d d' : ℕ} {v : ℤ} → 2 ≤ d
      → f (get_or cells (d - 2) (pos 0)) (get_or cells (d - 1) (pos 0)) ≡ v ∷ [] → Does (λ s. v ∷ drop 2 s) cells d cells' d'
      → Does (binary e f) cells d cells' d'
  unfolding binary in_place
  left {cells} {cells'} {d} h g p = record { lies = p.lies; is = p.is ∙ rw (two cells d h, g) refl }

  pub gone : {cells cells' : List ℤ} {d d' : ℕ} → 2 ≤ d
      → f (get_or cells (d - 2) (pos 0)) (get_or cells (d - 1) (pos 0)) ≡ [] → Does (undone e) cells d cells' d'
      → Does (binary e f) cells d cells' d'
  unfolding binary in_place
  gone {cells} {cells'} {d} h g p = record { lies = p.lies; is = p.is ∙ rw (two cells d h, g) refl }

-- the depth is the stack's length
pub stack_of_length : (cells : List ℤ) (d : ℕ) → length (stack_of cells d) ≡ d
unfolding stack_of
stack_of_length cells zero = refl
stack_of_length cells (suc d) = ap suc (stack_of_length cells d)

pub depth_is : {f : List ℤ → List ℤ} {c c' : List ℤ} {d d' : ℕ} → Does f c d c' d' → d' ≡ length (f (stack_of c d))
depth_is {c' = c'} {d' = d'} p = sym (stack_of_length c' d') ∙ ap length p.is

pub pop_depth : {c c' : List ℤ} {d d' : ℕ} → 0 < d → Does Instr.pop c d c' d' → d' ≡ d - 1
unfolding Instr.pop stack_of
pop_depth {d = zero} h p = absurd (omega arith)
pop_depth {c = c} {d = suc d} h p = depth_is p ∙ stack_of_length c d ∙ sym (less_one d)

pub pop_le : (s : List ℤ) → length (Instr.pop s) ≤ length s
unfolding Instr.pop
pop_le [] = omega arith
pop_le (a ∷ s) = omega arith

pub pop_pop : (s : List ℤ) → Instr.pop (Instr.pop s) ≡ drop 2 s
unfolding Instr.pop
pop_pop [] = refl
pop_pop (a ∷ []) = refl
pop_pop (a ∷ (b ∷ s)) = refl

pub drop_pop : (v : ℤ) (s : List ℤ) → ◌≡◌ {A = List ℤ} (v ∷ drop 1 (Instr.pop s)) (v ∷ drop 2 s)
unfolding Instr.pop
drop_pop v [] = refl
drop_pop v (a ∷ []) = refl
drop_pop v (a ∷ (b ∷ s)) = refl

-- no room for one more
pub push_full : (v : ℤ) (c : List ℤ) (d : ℕ) → d ≡ length c → Overflows (Instr.push v) c d c
push_full v c d e = record { same = refl; full = omega (arith, stack_of_length c d) }

pub dup_full : (c : List ℤ) (d : ℕ) → 0 < d → d ≡ length c → Overflows Instr.dup c d c
unfolding Instr.dup stack_of
dup_full c zero h e = record { same = refl; full = omega arith }
dup_full c (suc d) h e = record { same = refl; full = omega (arith, stack_of_length c d) }
