-- Which cell is whose: a cell of the rows is one field of one region, a cell of the exits one state of one region. What
-- speaks of all cells goes through these laws, so that the layout is known here alone.
--     row_in, row_past, ..             which cells are of the first n regions
--     row_apart, exit_apart            two fields, or two exits, share no cell
--     each_row_cell, each_exit_cell    every cell is one of these
--     same_rows, same_exits            two lists with the same rows, or the same exits, are equal
-- Assumes nothing.
use mathlib.Core.Path.{◌≡◌, refl, sym, ap, subst, ◌∙◌}
use mathlib.Core.List.{List}
use Prim.Native.Nat.{ℕ, zero, suc, ◌/◌, ◌%◌, ◌<◌, ◌≤◌}
use native.Mathlib.Omega.{arith}
use lib.ListN.{length, get_or}
use lib.Seq.{ext_get_or}
use Rattle.table.specs.Layout.{row_cell, exit_cell, rows_room, exits_room, field_at, exit_at, RowNumbers, row_at, blank}

-- the cells of the first n regions are those below their room
module _ (n r : ℕ) where
  pub row_in : (f : ℕ) → f < 5 → r < n → row_cell r f < rows_room n
  row_in f h l = omega arith

  pub row_below : (f : ℕ) → f < 5 → row_cell r f < rows_room n → r < n
  row_below f h l = omega arith

  pub row_past : (f : ℕ) → f < 5 → n ≤ r → rows_room n ≤ row_cell r f
  row_past f h l = omega arith

  pub exit_in : (s : ℕ) → s < 8 → r < n → exit_cell r s < exits_room n
  exit_in s h l = omega arith

  pub exit_below : (s : ℕ) → s < 8 → exit_cell r s < exits_room n → r < n
  exit_below s h l = omega arith

-- two fields, or two states, share no cell
pub row_apart : (r f q g : ℕ) → f < 5 → g < 5 → row_cell r f ≡ row_cell q g → (r ≡ q) × (f ≡ g)
row_apart r f q g h k e = (omega arith, omega arith)

pub exit_apart : (r s q t : ℕ) → s < 8 → t < 8 → exit_cell r s ≡ exit_cell q t → (r ≡ q) × (s ≡ t)
exit_apart r s q t h k e = (omega arith, omega arith)

-- every cell is a field of a region, or an exit of one: what holds of each of these holds of each cell
pub each_row_cell : (P : ℕ → Type 0) → ((r f : ℕ) → f < 5 → P (row_cell r f)) → (k : ℕ) → P k
each_row_cell P h k =
    let e : row_cell (k / 5) (k % 5) ≡ k = omega arith in
    subst P e (h (k / 5) (k % 5) (omega arith))

pub each_exit_cell : (P : ℕ → Type 0) → ((r s : ℕ) → s < 8 → P (exit_cell r s)) → (k : ℕ) → P k
each_exit_cell P h k =
    let e : exit_cell (k / 8) (k % 8) ≡ k = omega arith in
    subst P e (h (k / 8) (k % 8) (omega arith))

-- two rows with the same five numbers are the same, and so are their fields
pub same_row : {x y : RowNumbers} → x.colour ≡ y.colour → x.size ≡ y.size → x.row ≡ y.row → x.column ≡ y.column → x.mark ≡ y.mark → x ≡ y
same_row a b c d e = λ i. record { colour = a i; size = b i; row = c i; column = d i; mark = e i }

-- the number of a field
abbrev number_at : RowNumbers → ℕ → ℕ
number_at x zero = x.colour
number_at x (suc zero) = x.size
number_at x (suc (suc zero)) = x.row
number_at x (suc (suc (suc zero))) = x.column
number_at x (suc (suc (suc (suc f)))) = x.mark

number_is : (rows : List ℕ) (r f : ℕ) → f < 5 → number_at (row_at rows r) f ≡ field_at rows r f
number_is rows r zero h = refl
number_is rows r (suc zero) h = refl
number_is rows r (suc (suc zero)) h = refl
number_is rows r (suc (suc (suc zero))) h = refl
number_is rows r (suc (suc (suc (suc zero)))) h = refl
number_is rows r (suc (suc (suc (suc (suc f))))) h = absurd (omega arith)

-- the fields of a row are its numbers
pub row_fields : (rows rows' : List ℕ) (r : ℕ) → row_at rows r ≡ row_at rows' r → (f : ℕ) → f < 5 → field_at rows r f ≡ field_at rows' r f
row_fields rows rows' r e f h = sym (number_is rows r f h) ∙ ap (λ (x : RowNumbers). number_at x f) e ∙ number_is rows' r f h

pub blank_fields : (rows : List ℕ) (r : ℕ) → row_at rows r ≡ blank → (f : ℕ) → f < 5 → field_at rows r f ≡ 0
blank_fields rows r e f h = sym (number_is rows r f h) ∙ ap (λ (x : RowNumbers). number_at x f) e ∙ none f
  where
    none : (f : ℕ) → number_at blank f ≡ 0
    none zero = refl
    none (suc zero) = refl
    none (suc (suc zero)) = refl
    none (suc (suc (suc zero))) = refl
    none (suc (suc (suc (suc f)))) = refl

-- two lists of one length that have the same rows, or the same exits, are equal
pub same_rows : (rows rows' : List ℕ) → length rows ≡ length rows' → ((r : ℕ) → row_at rows r ≡ row_at rows' r) → rows ≡ rows'
same_rows rows rows' l same =
    ext_get_or 0 rows rows' l (λ k h. each_row_cell (λ (c : ℕ). get_or rows c 0 ≡ get_or rows' c 0) (λ r f few. row_fields rows rows' r (same r) f few) k)

pub same_exits : (exits exits' : List ℕ) → length exits ≡ length exits' → ((r s : ℕ) → s < 8 → exit_at exits r s ≡ exit_at exits' r s) → exits ≡ exits'
same_exits exits exits' l same =
    ext_get_or 0 exits exits' l (λ k h. each_exit_cell (λ (c : ℕ). get_or exits c 0 ≡ get_or exits' c 0) same k)
