-- Laws of the list of the nodes that were never entered.
--     listed_rises, listed_node                        what it says: they rise, and each such node below n stands in it once
--     list_same, list_length                           only the counts below n matter; with its zeros it has n cells
--     none_listed, one_listed, not_listed, all_listed  it is written node after node, then the zeros
-- Assumes nothing.
use mathlib.Core.Path.{◌≡◌, refl, ap, ap₂, ◌∙◌}
use mathlib.Core.Bool.{Bool, true, false, cond, ◌&&◌}
use mathlib.Core.List.{List, [], ◌∷◌}
use Prim.Native.Nat.{ℕ, ◌+◌, ◌-◌, ◌<◌, ◌≤◌}
use native.Mathlib.Numerals.{add-one}
use native.Mathlib.Omega.{arith}
use lib.Dec.{eqb, ltb}
use lib.ListN.{length, get_or, set, replicate, length-set, length-append, length-replicate}
use Rattle.base.specs.Counting.{count, up_to, those}
use Rattle.base.specs.Lent.{over, lent, filled}
use Rattle.base.proofs.CountingLaws.{those_one, those_not, those_none, those_most, those_count, those_rise, those_same}
use Rattle.base.proofs.Over.{over_one, lent_after}
use Rattle.table.specs.Layout.{mark_of}
use Rattle.visits.specs.Visits.{never_entered, unvisited_of, list_of}
use Rattle.visits.specs.Counted.{Lists}

module _ (n : ℕ) (rows : List ℕ) (f : ℕ → ℕ) where
  pub listed_rises : (i k : ℕ) → i < k → k < length (unvisited_of n rows f) → get_or (unvisited_of n rows f) i 0 < get_or (unvisited_of n rows f) k 0
  listed_rises = those_rise (never_entered rows f) n

  pub listed_node : (r : ℕ) → count r (unvisited_of n rows f) ≡ cond (ltb r n && never_entered rows f r) 1 0
  listed_node = those_count (never_entered rows f) n

  pub list_length : length (list_of n rows f) ≡ n
  list_length =
      simp (length-append, length-replicate) (omega (arith, those_most (never_entered rows f) n))

  pub list_same : (g : ℕ → ℕ) → ((r : ℕ) → r < n → f r ≡ g r) → unvisited_of n rows f ≡ unvisited_of n rows g
  list_same g h =
      those_same (never_entered rows f) (never_entered rows g) n
      (λ r l. ap (λ (k : ℕ). eqb (mark_of rows r) 1 && eqb k 0) (h r l))

-- the numbers below i that pass a test are written at the start of lent cells
pub record Listing (f : ℕ → Bool) (u : List ℕ) (i : ℕ) (cells : List ℕ) (listed : ℕ) : Type 0 where
  pub most : listed ≤ i
  pub same_length : length cells ≡ length u
  pub counted : listed ≡ length (those f (up_to i))
  pub written : cells ≡ lent (those f (up_to i)) u

pub none_listed : (f : ℕ → Bool) (u : List ℕ) → Listing f u 0 u 0
unfolding lent
none_listed f u = record { most = omega arith; same_length = refl; counted = rw (those_none f); written = rw (those_none f) }

module _ {f : ℕ → Bool} {u : List ℕ} {i : ℕ} {cells : List ℕ} {listed : ℕ} (L : Listing f u i cells listed) where
  pub one_listed : f i ≡ true → i < length u → Listing f u (i + 1) (set cells listed i) (listed + 1)
  one_listed e h =
      record {
        most = omega arith;
        same_length = length-set cells listed i ∙ L.same_length;
        counted = rw (add-one i, those_one f i e) (simp length-append (omega arith));
        written =
            over_one cells listed i (omega arith)
            ∙ ap₂ (λ d k. over d k (i ∷ [])) L.written L.counted
            ∙ lent_after (those f (up_to i)) u (i ∷ []) (omega arith)
            ∙ rw (add-one i, those_one f i e);
      }

  pub not_listed : f i ≡ false → Listing f u (i + 1) cells listed
  not_listed e =
      record {
        most = omega arith;
        same_length = L.same_length;
        counted = rw (add-one i, those_not f i e) L.counted;
        written = rw (add-one i, those_not f i e) L.written;
      }

pub all_listed : {n : ℕ} {rows visits u cells : List ℕ} {listed : ℕ} → n ≤ length u
    → Listing (never_entered rows (λ i. get_or visits i 0)) u n cells listed → Lists n rows visits u (filled listed n 0 cells) listed
unfolding filled
all_listed {n} {rows} {visits} {u} h L =
    let w = unvisited_of n rows (λ i. get_or visits i 0) in
    record {
      counted = L.counted;
      cells =
          ap₂ (λ d k. over d k (replicate (n - k) 0)) L.written L.counted
          ∙ lent_after w u (replicate (n - length w) 0) (omega arith);
    }
