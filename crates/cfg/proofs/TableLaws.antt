-- A picture has one table in an edition; its map and its rows but for the marks are the same in every edition. Assumes nothing.
use mathlib.Core.Path.{◌≡◌, refl, sym, ap, subst, ◌∙◌}
use mathlib.Core.Logic.{by_cases}
use mathlib.Core.List.{List}
use Prim.Native.Nat.{ℕ, ◌<◌}
use native.Mathlib.Decide.{dec_lt}
use native.Mathlib.Omega.{arith}
use lib.ListN.{length, drop, drop_of_length-le}
use Rattle.base.specs.declared.edition.Edition.{Edition}
use Rattle.flow.specs.Pointer.{Valid, state_number}
use Rattle.flow.proofs.Order.{valid_number}
use Rattle.flow.specs.declared.PointerState.{PointerState}
use Rattle.cfg.specs.Table.{Marks, is, none, Exit, no_node, shut, leads, stuck, Builds}
use Rattle.table.specs.Layout.{RowNumbers, mark_of, exit_at, row_at, blank}
use Rattle.table.proofs.Cells.{same_rows, same_exits}
use Rattle.picture.specs.Picture.{Picture, cols_of, codels}
use Rattle.region.specs.Grid.{grid_of}
use Rattle.region.specs.Rows.{Row}
use Rattle.region.proofs.MapLaws.{settled}
use Rattle.region.proofs.RowLaws.{row_only}
use Rattle.exit.proofs.Opening.{opens_only, open_unstuck}

one_mark : {A : Type 0} {x y : ℕ} → Marks A x → Marks A y → x ≡ y
one_mark (is a) (is b) = refl
one_mark (is a) (none b) = absurd (b a)
one_mark (none a) (is b) = absurd (a b)
one_mark (none a) (none b) = refl

module _ {e : Edition} {p : Picture} {map : List ℕ} (h : 0 < cols_of p) (l : length map ≡ codels p) where
  pub one_exit : {r x y : ℕ} {q : PointerState} → Valid q → Exit e p map r q x → Exit e p map r q y → x ≡ y
  one_exit v (no_node a) (no_node b) = refl
  one_exit v (no_node a) (shut b t) = refl
  one_exit v (no_node a) (leads b t) = absurd (a b)
  one_exit v (no_node a) (stuck b t) = absurd (a b)
  one_exit v (shut a s) (no_node b) = refl
  one_exit v (shut a s) (shut b t) = refl
  one_exit v (shut a s) (leads b t) = absurd (s.never _ _ _ t)
  one_exit v (shut a s) (stuck b t) = absurd (s.unstuck t)
  one_exit v (leads a s) (no_node b) = absurd (b a)
  one_exit v (leads a s) (shut b t) = absurd (t.never _ _ _ s)
  one_exit v (leads {u = u} a s) (leads {u = u'} b t) =
      let o = opens_only h l v s t in
      let state : state_number u ≡ state_number u' = ap state_number o.1 in
      omega (arith, o.0, o.2)
  one_exit v (leads a s) (stuck b t) = absurd (open_unstuck h l v s t)
  one_exit v (stuck a s) (no_node b) = absurd (b a)
  one_exit v (stuck a s) (shut b t) = absurd (t.unstuck s)
  one_exit v (stuck a s) (leads b t) = absurd (open_unstuck h l v t s)
  one_exit v (stuck a s) (stuck b t) = refl

-- the map and the count of regions are the same in every edition
pub same_map : {e e' : Edition} {p : Picture} {map rows exits work map' rows' exits' work' : List ℕ} {n n' : ℕ}
    → Builds e p map rows exits work n → Builds e' p map' rows' exits' work' n' → (map ≡ map') × (n ≡ n')
same_map {p = p} {map = map} {map' = map'} {n = n} {n' = n'} a b =
    let rest : drop (codels p) map ≡ drop (codels p) map' =
    drop_of_length-le map {i = codels p} (omega (arith, a.map_long)) ∙ sym (drop_of_length-le map' {i = codels p} (omega (arith, b.map_long))) in
    settled (grid_of p) map map' n n' a.regions b.regions (a.map_long ∙ sym b.map_long) rest

-- so a table can be read over another's map
pub over_map : {e : Edition} {p : Picture} {map map' rows exits work : List ℕ} {n n' : ℕ} → (map ≡ map') × (n ≡ n') → Builds e p map' rows exits work n'
    → Builds e p map rows exits work n
over_map {e} {p} {map} {map'} {rows} {exits} {work} {n} {n'} same b =
    subst (λ (x : ℕ). Builds e p map rows exits work x) (sym same.1) (subst (λ (x : List ℕ). Builds e p x rows exits work n') (sym same.0) b)

-- a row with another mark
abbrev pub with_mark : ℕ → RowNumbers → RowNumbers
with_mark mark x = record { colour = x.colour; size = x.size; row = x.row; column = x.column; mark = mark }

-- and then the rows differ in their marks at most
module _ {e e' : Edition} {p : Picture} {map rows exits work rows' exits' work' : List ℕ} {n : ℕ}
    (a : Builds e p map rows exits work n) (b : Builds e' p map rows' exits' work' n) where
  pub row_but_mark : (r : ℕ) → with_mark (mark_of rows' r) (row_at rows r) ≡ row_at rows' r
  row_but_mark r =
      by_cases (dec_lt r n)
      (λ i. row_only (marked (a.row r i)) (b.row r i) refl)
      (λ i. ap (with_mark (mark_of rows' r)) (a.rows_rest r (omega arith)) ∙ rest (b.rows_rest r (omega arith)))
    where
      marked : {m : ℕ} {x : RowNumbers} → Row (grid_of p) p.codel (codels p) map r x → Row (grid_of p) p.codel (codels p) map r (with_mark m x)
      marked x = record { first = x.first; is_first = x.is_first; colour = x.colour; size = x.size; row = x.row; column = x.column }

      rest : {x : RowNumbers} → x ≡ blank → with_mark x.mark blank ≡ x
      rest z = ap (λ (y : RowNumbers). with_mark y.mark blank) z ∙ sym z

-- in one edition they are the same
module _ {e : Edition} {p : Picture} {map rows exits work rows' exits' work' : List ℕ} {n : ℕ}
    (a : Builds e p map rows exits work n) (b : Builds e p map rows' exits' work' n) where
  one_row : (r : ℕ) → row_at rows r ≡ row_at rows' r
  one_row r =
      by_cases (dec_lt r n)
      (λ i. ap (λ (m : ℕ). with_mark m (row_at rows r)) (one_mark (a.node r i) (b.node r i)) ∙ row_but_mark a b r)
      (λ i. a.rows_rest r (omega arith) ∙ sym (b.rows_rest r (omega arith)))

  one_rows : rows ≡ rows'
  one_rows = same_rows rows rows' (a.rows_long ∙ sym b.rows_long) one_row

-- the exits are the same in one edition
module _ {e : Edition} {p : Picture} (h : 0 < cols_of p) {map rows exits work rows' exits' work' : List ℕ} {n : ℕ}
    (a : Builds e p map rows exits work n) (b : Builds e p map rows' exits' work' n) where
  each_exit : (r s : ℕ) → s < 8 → exit_at exits r s ≡ exit_at exits' r s
  each_exit r s k =
      by_cases (dec_lt r n)
      (λ i. one_exit h a.map_long (valid_number s k) (a.exit r s i k) (b.exit r s i k))
      (λ i. a.exits_rest r s (omega arith) k ∙ sym (b.exits_rest r s (omega arith) k))

  one_exits : exits ≡ exits'
  one_exits = same_exits exits exits' (a.exits_long ∙ sym b.exits_long) each_exit

-- a picture has one table in an edition
pub table_only : {e : Edition} {p : Picture} → 0 < cols_of p → {map rows exits work map' rows' exits' work' : List ℕ} {n n' : ℕ}
    → Builds e p map rows exits work n → Builds e p map' rows' exits' work' n'
    → (map ≡ map') × (rows ≡ rows') × (exits ≡ exits') × (work ≡ work') × (n ≡ n')
table_only h a b =
    let same = same_map a b in
    let c = over_map same b in
    (same.0, one_rows a c, one_exits h a c, a.work_zero ∙ sym b.work_zero, same.1)
