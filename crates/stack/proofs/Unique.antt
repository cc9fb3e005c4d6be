-- The depth and the stack settle every cell: two slices of one length in which the same stack lies are equal.
-- Assumes nothing.
use mathlib.Core.Path.{◌≡◌, sym, ap, ◌∙◌}
use mathlib.Core.List.{List, ◌∷◌}
use Prim.Native.Nat.{ℕ, zero, suc, ◌<◌}
use native.Mathlib.Decide.{dec_lt}
use native.Mathlib.Omega.{arith}
use lib.ListN.{length, get_or}
use lib.Seq.{ext_get_or}
use lib.IntN.{ℤ, pos}
use Rattle.stack.specs.Stack.{stack_of, Lies}
use Rattle.stack.proofs.Cells.{stack_of_length}

heads : {a b : ℤ} {s t : List ℤ} → ◌≡◌ {A = List ℤ} (a ∷ s) (b ∷ t) → a ≡ b
heads e = cc

tails : {a b : ℤ} {s t : List ℤ} → ◌≡◌ {A = List ℤ} (a ∷ s) (b ∷ t) → s ≡ t
tails e = cc

cell : (c c' : List ℤ) (d : ℕ) → stack_of c d ≡ stack_of c' d → (i : ℕ) → i < d → get_or c i (pos 0) ≡ get_or c' i (pos 0)
unfolding stack_of
cell c c' zero e i h = absurd (omega arith)
cell c c' (suc d) e i h = go (dec_lt i d) (cell c c' d (tails e) i)
  where
    go : Dec (i < d) → (i < d → get_or c i (pos 0) ≡ get_or c' i (pos 0)) → get_or c i (pos 0) ≡ get_or c' i (pos 0)
    go (yes q) f = f q
    go (no q) f =
        let k : i ≡ d = omega arith in
        rw k (heads e)

same_cells : (c c' : List ℤ) (d : ℕ) → Lies c d → Lies c' d → length c ≡ length c' → stack_of c d ≡ stack_of c' d → c ≡ c'
same_cells c c' d l l' n e = ext_get_or (pos 0) c c' n (λ i h. go i (dec_lt i d))
  where
    go : (i : ℕ) → Dec (i < d) → get_or c i (pos 0) ≡ get_or c' i (pos 0)
    go i (yes q) = cell c c' d e i q
    go i (no q) = l.clean i (omega arith) ∙ sym (l'.clean i (omega arith))

pub unique : (c c' : List ℤ) (d d' : ℕ) → Lies c d → Lies c' d' → length c ≡ length c' → stack_of c d ≡ stack_of c' d'
    → (d ≡ d') × (c ≡ c')
unique c c' d d' l l' n e =
    let k : d ≡ d' = sym (stack_of_length c d) ∙ ap length e ∙ stack_of_length c' d' in
    (k, same_cells c c' d l (rw (← k) at l') n (e ∙ ap (stack_of c') (sym k)))
