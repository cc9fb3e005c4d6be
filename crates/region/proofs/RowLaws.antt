-- A map has one table of rows. Assumes nothing.
use mathlib.Core.Path.{◌≡◌, sym, ◌∙◌}
use mathlib.Core.Logic.{by_cases}
use mathlib.Core.List.{List}
use Prim.Native.Nat.{ℕ, ◌<◌}
use native.Mathlib.Decide.{dec_lt}
use native.Mathlib.Omega.{arith}
use lib.ListN.{length, get_or, drop}
use Rattle.table.specs.Layout.{rows_room, RowNumbers, row_at}
use Rattle.table.proofs.Cells.{same_row, row_fields, row_below, each_row_cell}
use Rattle.region.specs.Grid.{Grid, count}
use Rattle.region.specs.Rows.{First, Row, IsTable}
use Rattle.region.proofs.Cells.{same_list}

-- a region has one first codel
pub first_one : (m : List ℕ) (n r i j : ℕ) → First m n r i → First m n r j → i ≡ j
first_one m n r i j a b =
    let up : ¬ (i < j) = λ h. b.none i h a.has in
    let down : ¬ (j < i) = λ h. a.none j h b.has in
    omega arith

-- a region's row is settled, but for its mark
pub row_only : {g : Grid} {codel n : ℕ} {m : List ℕ} {r : ℕ} {x y : RowNumbers} → Row g codel n m r x → Row g codel n m r y → x.mark ≡ y.mark → x ≡ y
row_only {n = n} {m = m} {r = r} a b mark =
    let e = first_one m n r a.first b.first a.is_first b.is_first in
    same_row (cc) (cc) (cc) (cc) mark

-- two tables of one map have the same rows
module _ (g : Grid) (codel n : ℕ) (m t t' : List ℕ) (a : IsTable g codel n m t) (b : IsTable g codel n m t') where
  pub table_unique : (r : ℕ) → r < count g → row_at t r ≡ row_at t' r
  table_unique r h =
      by_cases (dec_lt r n)
      (λ k. row_only (a.rows r k) (b.rows r k) (a.unmarked r k ∙ sym (b.unmarked r k)))
      (λ k. a.rest r (omega arith) h ∙ sym (b.rest r (omega arith) h))

  -- of one length and the same beyond the rows, they are equal
  pub table_settled : length t ≡ length t' → drop (rows_room (count g)) t ≡ drop (rows_room (count g)) t' → t ≡ t'
  table_settled size rest =
      same_list (rows_room (count g)) t t' size
      (each_row_cell (λ (i : ℕ). i < rows_room (count g) → get_or t i 0 ≡ get_or t' i 0) (λ r f few inside. row_fields t t' r (table_unique r (row_below (count g) r f few inside)) f few))
      rest
