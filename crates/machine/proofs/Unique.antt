-- The outputs settle every cell: two pairs of slices of the same lengths in which the same outputs stand are equal.
-- Assumes nothing.
use mathlib.Core.Path.{◌≡◌, ◌∙◌, sym, ap}
use mathlib.Core.List.{List, [], ◌∷◌}
use Prim.Native.Nat.{ℕ, zero, suc, ◌<◌}
use native.Mathlib.Decide.{dec_lt}
use native.Mathlib.Omega.{arith}
use lib.ListN.{length, get_or, get_or-append}
use lib.Seq.{ext_get_or, get_or_at}
use lib.IntN.{ℤ, pos}
use Rattle.machine.specs.Output.{Emit, outs_of, Holds}
use Rattle.machine.proofs.Emitting.{outs_length}

-- what a place past the outputs holds
abbrev none : Emit
none = record { kind = 0; value = pos 0 }

-- the output at a place is what the two cells hold
abbrev cells : List ℕ → List ℤ → ℕ → Emit
cells kinds values i = record { kind = get_or kinds i 0; value = get_or values i (pos 0) }

outs_at : (kinds : List ℕ) (values : List ℤ) (n i : ℕ) → i < n → get_or (outs_of kinds values n) i none ≡ cells kinds values i
unfolding outs_of
outs_at kinds values zero i h = absurd (omega arith)
outs_at kinds values (suc n) i h = go (dec_lt i n) (outs_at kinds values n i)
  where
    go : Dec (i < n) → (i < n → get_or (outs_of kinds values n) i none ≡ cells kinds values i)
        → get_or (outs_of kinds values (suc n)) i none ≡ cells kinds values i
    go (yes q) f = get_or-append (outs_of kinds values n) (cells kinds values n ∷ []) none i (omega (arith, outs_length kinds values n)) ∙ f q
    go (no q) f =
        let e : i ≡ n = omega arith in
        rw e (get_or_at (outs_of kinds values n) (cells kinds values n) [] none n (outs_length kinds values n))

module _ (kinds kinds' : List ℕ) (values values' : List ℤ) (n n' : ℕ)
    (h : Holds kinds values n) (h' : Holds kinds' values' n') (e : outs_of kinds values n ≡ outs_of kinds' values' n') where
  count : n ≡ n'
  count = sym (outs_length kinds values n) ∙ ap length e ∙ outs_length kinds' values' n'

  -- a place below the count
  same_at : (i : ℕ) → i < n → cells kinds values i ≡ cells kinds' values' i
  same_at i q =
      sym (outs_at kinds values n i q) ∙ ap (λ (o : List Emit). get_or o i none) e ∙ outs_at kinds' values' n' i (omega (arith, count))

  kind_at : (i : ℕ) → Dec (i < n) → get_or kinds i 0 ≡ get_or kinds' i 0
  kind_at i (yes q) = ap (λ (o : Emit). o.kind) (same_at i q)
  kind_at i (no q) = h.kinds_clean i (omega arith) ∙ sym (h'.kinds_clean i (omega (arith, count)))

  value_at : (i : ℕ) → Dec (i < n) → get_or values i (pos 0) ≡ get_or values' i (pos 0)
  value_at i (yes q) = ap (λ (o : Emit). o.value) (same_at i q)
  value_at i (no q) = h.values_clean i (omega arith) ∙ sym (h'.values_clean i (omega (arith, count)))

  pub unique_outs : length kinds ≡ length kinds' → length values ≡ length values'
      → (n ≡ n') × (kinds ≡ kinds') × (values ≡ values')
  unique_outs k v = (
    count,
    ext_get_or 0 kinds kinds' k (λ i l. kind_at i (dec_lt i n)),
    ext_get_or (pos 0) values values' v (λ i l. value_at i (dec_lt i n)),
  )
