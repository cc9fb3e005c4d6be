-- How many regions have no mark, as one is marked. Assumes nothing.
use mathlib.Core.Path.{◌≡◌, refl}
use mathlib.Core.Logic.{◌≢◌, by_cases}
use mathlib.Core.List.{List}
use Prim.Native.Nat.{ℕ, zero, suc, ◌+◌, ◌<◌, ◌≤◌}
use native.Mathlib.Decide.{ℕ_discrete}
use native.Mathlib.Omega.{arith}
use lib.Dec.{eqb}
use lib.ListN.{length, set}
use lib.Seq.{get_or-set_same, get_or-set_other}
use Rattle.cfg.specs.Search.{bare}
use Rattle.table.specs.Layout.{mark_of, row_cell, mark_field}
use Rattle.base.proofs.CountingLaws.{one_most}

pub bare_most : (n : ℕ) (rows : List ℕ) → bare n rows ≤ n
unfolding bare
bare_most zero rows = omega arith
bare_most (suc n) rows = omega (arith, one_most (eqb (mark_of rows n) 0), bare_most n rows)

other_mark : (rows : List ℕ) (q r v : ℕ) → r ≢ q → mark_of (set rows (row_cell q mark_field) v) r ≡ mark_of rows r
other_mark rows q r v d = get_or-set_other rows (row_cell q mark_field) (row_cell r mark_field) v 0 (omega arith)

bare_above : (n : ℕ) (rows : List ℕ) (q v : ℕ) → n ≤ q → bare n (set rows (row_cell q mark_field) v) ≡ bare n rows
unfolding bare
bare_above zero rows q v h = refl
bare_above (suc n) rows q v h = rw (other_mark rows q n v (omega arith), bare_above n rows q v (omega arith))

-- a region that is marked is one less
pub bare_set : (n : ℕ) (rows : List ℕ) (q : ℕ) → q < n → row_cell q mark_field < length rows → mark_of rows q ≡ 0 → bare n (set rows (row_cell q mark_field) 1) + 1 ≡ bare n rows
unfolding bare
bare_set zero rows q h i e = absurd (omega arith)
bare_set (suc n) rows q h i e =
    by_cases (ℕ_discrete n q)
    (λ here.
    rw (here, get_or-set_same rows (row_cell q mark_field) 1 0 i, bare_above q rows q 1 (omega arith), e) (omega arith))
    (λ there.
    rw (other_mark rows q n 1 there) (omega (arith, bare_set n rows q (omega arith) i e)))

pub bare_some : (n : ℕ) (rows : List ℕ) (q : ℕ) → q < n → row_cell q mark_field < length rows → mark_of rows q ≡ 0 → 1 ≤ bare n rows
bare_some n rows q h i e = omega (arith, bare_set n rows q h i e)
