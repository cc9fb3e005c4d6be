-- Writing the values of an answer. Assumes nothing.
use mathlib.Core.Path.{◌≡◌, refl, ap, ap₂, subst, ◌∙◌}
use mathlib.Core.List.{List, [], ◌∷◌, ◌++◌}
use Prim.Native.Nat.{ℕ, zero, suc, ◌+◌, ◌-◌, ◌<◌, ◌≤◌}
use native.Mathlib.Nat.{le_of_suc-le-suc}
use native.Mathlib.Omega.{arith}
use lib.ListN.{length, drop, set, replicate, length-set}
use Rattle.base.specs.Lent.{over, lent}
use Rattle.base.proofs.Over.{over_none, over_one, over_over, over_zero}
use Rattle.base.specs.Numbers.{Numbers, numbers, number_of, values_of}
use Rattle.piet_c.specs.Exported.{Exported, made}

-- values that are written from an index on, cell after cell
unfoldable pub cells : List ℕ → ℕ → List ℕ → List ℕ
cells [] at l = l
cells (v ∷ vs) at l = cells vs (suc at) (set l at v)

cells_over : (vs : List ℕ) (at : ℕ) (l : List ℕ) → at + length vs ≤ length l → cells vs at l ≡ over l at vs
unfolding cells
cells_over [] at l h = over_none l at
cells_over (v ∷ vs) at l h =
    let n : suc at ≡ at + 1 = omega arith in
    cells_over vs (suc at) (set l at v) (simp length-set (omega arith))
    ∙ ap₂ (λ (k : ℕ) (d : List ℕ). over d k vs) n (over_one l at v (omega arith))
    ∙ over_over l at (v ∷ []) vs (omega arith)

-- from the start on they are a result
pub cells_put : (vs l : List ℕ) → length vs ≤ length l → cells vs 0 l ≡ lent vs l
cells_put vs l h = cells_over vs 0 l (omega arith) ∙ over_zero l vs

-- one cell more, after values that stand there
pub next_put : (v l : List ℕ) (x : ℕ) → length v < length l → set (lent v l) (length v) x ≡ lent (v ++ (x ∷ [])) l
unfolding lent
next_put [] [] x h = absurd (omega arith)
next_put [] (y ∷ l) x h = refl
next_put (w ∷ v) [] x h = absurd (omega arith)
next_put (w ∷ v) (y ∷ l) x h = ap (λ (t : List ℕ). w ∷ t) (next_put v l x (le_of_suc-le-suc h))

-- a place over zeros
pub place_put : (l : List ℕ) {l₁ l₂ : List ℕ} (row column cells : ℕ) → 2 ≤ cells → l₁ ≡ lent (replicate cells 0) l → l₂ ≡ lent (row ∷ column ∷ []) l₁
    → l₂ ≡ lent (row ∷ column ∷ replicate (cells - 2) 0) l
unfolding lent
place_put l row column zero h p q = absurd (omega arith)
place_put l row column (suc zero) h p q = absurd (omega arith)
place_put l {l₂ = l₂} row column (suc (suc n)) h p q =
    let e : n ≡ suc (suc n) - 2 = omega arith in
    subst (λ (k : ℕ). l₂ ≡ lent (row ∷ column ∷ replicate k 0) l) e (q ∙ ap (λ (t : List ℕ). row ∷ column ∷ drop 2 t) p)

-- a call whose numbers were told
pub told : {S : Type 0} {Makes : Numbers → S → Type 0} {need : ℕ} {before after : S} {answer answer' : List ℕ} (number : ℕ) (values : List ℕ) {n : Numbers}
    → need ≤ length answer → Makes n after → numbers number values ≡ n → answer' ≡ lent values answer
    → Exported need Makes before answer number after answer'
told {answer = answer} number values {n} h m e w =
    made n h m (ap number_of e) (w ∙ ap (λ (x : Numbers). lent (values_of x) answer) e)
