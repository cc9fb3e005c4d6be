-- The text of a stack by what of its cells is lent to be written. Assumes nothing.
use mathlib.Core.Path.{◌≡◌, refl, sym, ap, ap₂, ◌∙◌}
use mathlib.Core.List.{List, [], ◌∷◌, ◌++◌, append-nil}
use Prim.Native.Nat.{ℕ, zero, suc, ◌+◌, ◌-◌, ◌<◌, ◌≤◌}
use native.Mathlib.Nat.{add-suc}
use native.Mathlib.Omega.{arith}
use lib.IntN.{ℤ, pos}
use lib.ListN.{length, take, drop}
use lib.Seq.{take_all, get_or-take, get_or-drop}
use Rattle.base.specs.Text.{ascii}
use Rattle.stack.specs.Stack.{stack_of}
use Rattle.stack.proofs.Cells.{stack_of_length}
use Rattle.report.specs.Text.{values}
use Rattle.telling.specs.Words.{others, stack_text}

-- the top cells are a stack of their own
top_cells : (cells : List ℤ) (n k j : ℕ) → j ≤ k → take j (stack_of cells (n + j)) ≡ stack_of (take k (drop n cells)) j
unfolding stack_of
top_cells cells n k zero h = refl
top_cells cells n k (suc j) h =
    ap (λ (m : ℕ). take (suc j) (stack_of cells m)) (add-suc n j)
    ∙ ap₂ ◌∷◌ (sym (get_or-take k (drop n cells) j (pos 0) (omega arith) ∙ get_or-drop n cells j (pos 0))) (top_cells cells n k j (omega arith))

some_shown : (s : List ℤ) → 0 < length s → stack_text s ≡ values (take 8 s) ++ others (length s - 8)
unfolding stack_text
some_shown [] h = absurd (omega arith)
some_shown (v ∷ s) h = refl

module _ (cells : List ℤ) (d : ℕ) where
  pub none_shown : d ≡ 0 → stack_text (stack_of cells d) ≡ ascii " empty"
  unfolding stack_text stack_of
  none_shown e = rw e

  -- no more than are shown
  pub all_shown : 0 < d → d ≤ 8 → stack_text (stack_of cells d) ≡ values (stack_of cells d)
  unfolding others
  all_shown h k =
      let l = stack_of_length cells d in
      let z : length (stack_of cells d) - 8 ≡ 0 = omega arith in
      some_shown (stack_of cells d) (omega arith)
      ∙ ap₂ (λ a n. values a ++ others n) (take_all 8 (stack_of cells d) (omega arith)) z
      ∙ append-nil (values (stack_of cells d))

  -- the top eight cells, and how many lie below
  pub eight_shown : 8 < d
      → stack_text (stack_of cells d) ≡ values (stack_of (take (d - (d - 8)) (drop (d - 8) cells)) 8) ++ others (d - 8)
  eight_shown h =
      let l = stack_of_length cells d in
      let e : d - 8 + 8 ≡ d = omega arith in
      let z : length (stack_of cells d) - 8 ≡ d - 8 = omega arith in
      let t : take 8 (stack_of cells d) ≡ stack_of (take (d - (d - 8)) (drop (d - 8) cells)) 8 =
      ap (λ (n : ℕ). take 8 (stack_of cells n)) (sym e) ∙ top_cells cells (d - 8) (d - (d - 8)) 8 (omega arith) in
      some_shown (stack_of cells d) (omega arith) ∙ ap₂ (λ a n. values a ++ others n) t z
