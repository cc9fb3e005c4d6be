-- The order of attempts (rule 4.5): the page's turns and the Rust's number for them are one order, no two states have the same
-- number, and attempt and offset are each other's inverse. Assumes nothing.
use mathlib.Core.Path.{◌≡◌, refl, sym, ap, subst, ◌∙◌}
use mathlib.Core.Bool.{Bool, true, false, cond}
use Prim.Native.Nat.{ℕ, zero, suc, ◌+◌, ◌/◌, ◌%◌, ◌<◌}
use native.Mathlib.Omega.{arith}
use lib.IntN.{ℤ}
use lib.Dec.{eqb, eqb→eq}
use Rattle.base.proofs.Table.{all_two_at}
use Rattle.flow.specs.declared.PointerState.{PointerState}
use Rattle.flow.specs.Pointer.{
  Valid,
  state_number,
  of_number,
  offset_of,
  attempt_of,
  after_failed,
  flipped,
  clockwise,
  turned_once,
  rotated,
  switched,
}

-- two states with equal fields are equal
pub same_state : (p q : PointerState) → p.dp ≡ q.dp → p.cc ≡ q.cc → p ≡ q
same_state p q d c = λ i. record { dp = d i; cc = c i }

-- a state and its number say the same
pub of_number_lem : (p : PointerState) → Valid p → of_number (state_number p) ≡ p
of_number_lem p h = same_state _ _ (omega arith) (omega arith)

pub number_small : (p : PointerState) → Valid p → state_number p < 8
number_small p h = omega arith

pub valid_number : (s : ℕ) → s < 8 → Valid (of_number s)
valid_number s h = omega arith

pub valid_turned : (p : PointerState) → Valid p → Valid (turned_once p)
valid_turned p h = record { dp = omega arith; cc = omega arith }

pub valid_rotated : (p : PointerState) (n : ℤ) → Valid p → Valid (rotated p n)
valid_rotated p n h = record { dp = omega arith; cc = h.cc }

pub valid_switched : (p : PointerState) (n : ℤ) → Valid p → Valid (switched p n)
valid_switched p n h = record { dp = h.dp; cc = omega arith }

valid_after : (k : ℕ) (p : PointerState) → Valid p → Valid (after_failed k p)
valid_after k p h = go (eqb (k % 2) 0)
  where
    go : (b : Bool) → Valid (cond b (flipped p) (clockwise p))
    go true = record { dp = h.dp; cc = omega arith }
    go false = record { dp = omega arith; cc = h.cc }

pub valid_attempt : (p : PointerState) (k : ℕ) → Valid p → Valid (attempt_of p k)
unfolding attempt_of
valid_attempt p zero h = h
valid_attempt p (suc k) h = valid_after k (attempt_of p k) (valid_attempt p k h)

-- the code's form of attempt k
abbrev pub attempted : PointerState → ℕ → PointerState
attempted p k = record { dp = (p.dp + k / 2) % 4; cc = (p.cc + k + k / 2) % 2 }

-- tests over all eight states, which antt computes
attempt_test : ℕ → ℕ → Bool
attempt_test s k = eqb (state_number (attempted (of_number s) k)) (state_number (attempt_of (of_number s) k))

offset_test : ℕ → ℕ → Bool
offset_test s k = eqb (offset_of (of_number s) (attempt_of (of_number s) k)) k

target_test : ℕ → ℕ → Bool
target_test s t = eqb (state_number (attempt_of (of_number s) (offset_of (of_number s) (of_number t)))) t

attempt_table : (s k : ℕ) → s < 8 → k < 8 → state_number (attempted (of_number s) k) ≡ state_number (attempt_of (of_number s) k)
unfolding attempt_test attempt_of
attempt_table s k hs hk = eqb→eq _ _ (all_two_at 8 8 attempt_test tt s k hs hk)

offset_table : (s k : ℕ) → s < 8 → k < 8 → offset_of (of_number s) (attempt_of (of_number s) k) ≡ k
unfolding offset_test attempt_of
offset_table s k hs hk = eqb→eq _ _ (all_two_at 8 8 offset_test tt s k hs hk)

target_table : (s t : ℕ) → s < 8 → t < 8 → state_number (attempt_of (of_number s) (offset_of (of_number s) (of_number t))) ≡ t
unfolding target_test attempt_of
target_table s t hs ht = eqb→eq _ _ (all_two_at 8 8 target_test tt s t hs ht)

-- what the code computes is the k-th attempt
pub attempted_is : (p : PointerState) (k : ℕ) → Valid p → k < 8 → attempted p k ≡ attempt_of p k
attempted_is p k h hk =
    sym (of_number_lem (attempted p k) (record { dp = omega arith; cc = omega arith }))
    ∙ ap of_number
    (subst (λ (q : PointerState). state_number (attempted q k) ≡ state_number (attempt_of q k)) (of_number_lem p h)
    (attempt_table (state_number p) k (number_small p h) hk))
    ∙ of_number_lem (attempt_of p k) (valid_attempt p k h)

-- the Rust's number of the k-th attempt is k (rule 4.5)
pub offset_attempt : (p : PointerState) (k : ℕ) → Valid p → k < 8 → offset_of p (attempt_of p k) ≡ k
offset_attempt p k h hk =
    subst (λ (q : PointerState). offset_of q (attempt_of q k) ≡ k) (of_number_lem p h)
    (offset_table (state_number p) k (number_small p h) hk)

-- an example that meets what `offset` asks for, which nothing here calls: from dp left, cc right the state with cc left
-- is the one that is tried next
pub offset_example : (Valid (of_number 5) × Valid (of_number 4)) × (offset_of (of_number 5) (of_number 4) ≡ 1)
offset_example = ((valid_number 5 (omega arith), valid_number 4 (omega arith)), refl)

-- the attempt with a state's number is that state: no two states have the same (rule 4.5)
pub attempt_offset : (p t : PointerState) → Valid p → Valid t → attempt_of p (offset_of p t) ≡ t
attempt_offset p t hp ht =
    sym (of_number_lem (attempt_of p (offset_of p t)) (valid_attempt p (offset_of p t) hp))
    ∙ ap of_number (subst (λ (q : PointerState). state_number (attempt_of q (offset_of q t)) ≡ state_number t) (of_number_lem p hp) from_number)
    ∙ of_number_lem t ht
  where
    from_number : state_number (attempt_of (of_number (state_number p)) (offset_of (of_number (state_number p)) t)) ≡ state_number t
    from_number =
        subst (λ (u : PointerState). state_number (attempt_of (of_number (state_number p)) (offset_of (of_number (state_number p)) u)) ≡ state_number t)
        (of_number_lem t ht)
        (target_table (state_number p) (state_number t) (number_small p hp) (number_small t ht))
