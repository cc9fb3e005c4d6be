-- The contracts of `number_regions` and `region_rows` determine what they write and return: two outcomes that they allow for
-- one input are equal. Assumes nothing.
use mathlib.Core.Path.{◌≡◌, sym, ◌∙◌}
use mathlib.Core.List.{List, ◌++◌}
use Prim.Native.Nat.{ℕ}
use lib.ListN.{length, drop, replicate}
use Rattle.table.specs.Layout.{rows_room}
use Rattle.region.specs.Grid.{Grid, count}
use Rattle.region.specs.Region.{IsMap}
use Rattle.region.specs.Rows.{IsTable}
use Rattle.region.proofs.MapLaws.{settled}
use Rattle.region.proofs.RowLaws.{table_settled}

-- an outcome that `number_regions` may have: its clauses, and that a lent slice keeps its length
pub record NumberRegions (g : Grid) (map work map' work' : List ℕ) (n : ℕ) : Type 0 where
  pub numbers : IsMap g map' n
  pub rest : drop (count g) map' ≡ drop (count g) map
  pub zeros : work' ≡ replicate (count g) 0 ++ drop (count g) work
  pub same_length : length map' ≡ length map

pub number_regions_only : {g : Grid} {map work m w m' w' : List ℕ} {n n' : ℕ}
    → NumberRegions g map work m w n → NumberRegions g map work m' w' n' → (m ≡ m') × (w ≡ w') × (n ≡ n')
number_regions_only {g} {m = m} {m' = m'} {n = n} {n' = n'} a b =
    let e = settled g m m' n n' a.numbers b.numbers (a.same_length ∙ sym b.same_length) (a.rest ∙ sym b.rest) in
    (e.0, a.zeros ∙ sym b.zeros, e.1)

-- an outcome that `region_rows` may have
pub record RegionRows (g : Grid) (codel n : ℕ) (map rows rows' : List ℕ) : Type 0 where
  pub table : IsTable g codel n map rows'
  pub rest : drop (rows_room (count g)) rows' ≡ drop (rows_room (count g)) rows
  pub same_length : length rows' ≡ length rows

pub region_rows_only : {g : Grid} {codel n : ℕ} {map rows t t' : List ℕ}
    → RegionRows g codel n map rows t → RegionRows g codel n map rows t' → t ≡ t'
region_rows_only {g} {codel} {n} {map} {t = t} {t' = t'} a b =
    table_settled g codel n map t t' a.table b.table (a.same_length ∙ sym b.same_length) (a.rest ∙ sym b.rest)
