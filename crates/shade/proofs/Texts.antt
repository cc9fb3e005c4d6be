-- The text by the code's cells: one codel more, and that it is the text by what was entered. Assumes nothing.
use mathlib.Core.Path.{◌≡◌, refl}
use mathlib.Core.List.{List, ◌++◌}
use Prim.Native.Nat.{ℕ, zero, suc, ◌+◌, ◌%◌, ◌<◌}
use native.Mathlib.Numerals.{add-one}
use native.Mathlib.Omega.{arith}
use lib.Dec.{eqb}
use lib.ListN.{get_or}
use Rattle.base.specs.Counting.{count}
use Rattle.picture.specs.Picture.{Picture, cols_of}
use Rattle.shade.specs.Shade.{entry_text, counts_text}
use Rattle.shade.specs.Counted.{cells_text}

-- one codel more
pub cells_turn : (map visits : List ℕ) (cols i : ℕ)
    → cells_text map visits cols i ++ entry_text (get_or visits (get_or map i 0) 0) (eqb ((i + 1) % cols) 0) ≡ cells_text map visits cols (i + 1)
unfolding cells_text
cells_turn map visits cols i = rw (add-one i)

-- where each cell has how often its region was entered, the code's text is that of the regions entered
pub same_text : (p : Picture) (cells map entered visits : List ℕ) (n : ℕ) → ((i : ℕ) → i < n → get_or visits (get_or cells i 0) 0 ≡ count (get_or map i 0) entered)
    → cells_text cells visits (cols_of p) n ≡ counts_text p map entered n
unfolding cells_text counts_text
same_text p cells map entered visits zero h = refl
same_text p cells map entered visits (suc n) h =
    rw (same_text p cells map entered visits n (λ i k. h i (omega arith)), h n (omega arith)) refl
