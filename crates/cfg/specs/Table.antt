-- The table that building writes (rules 7.1 to 7.4, and 16.5 for edition 2). Assumes nothing.
use Rattle.std.specs.Prelude.{◌≡◌, List, ℕ, ◌<◌, ◌≤◌, length, replicate}
use Rattle.base.specs.declared.edition.Edition.{Edition}
use Rattle.flow.specs.Pointer.{state_number, of_number}
use Rattle.flow.specs.declared.PointerState.{PointerState}
use Rattle.cfg.specs.Nodes.{Node}
use Rattle.picture.specs.Picture.{Picture, codels}
use Rattle.table.specs.Layout.{rows_room, exits_room, exit_at, row_at, blank}
use Rattle.table.specs.ExitNumber.{exit_number, lost_slide}
use Rattle.region.specs.Grid.{grid_of}
use Rattle.region.specs.Region.{IsMap}
use Rattle.region.specs.Rows.{Row}
use Rattle.exit.specs.Opens.{Opens, Stuck, Shut}

-- 1 where A holds, 0 where it does not
pub data Marks (A : Type 0) : ℕ → Type 0 where
  is : A → Marks A 1
  none : (A → ⊥) → Marks A 0

-- region r's exit in the state q (rule 7.3)
pub data Exit (e : Edition) (p : Picture) (map : List ℕ) (r : ℕ) (q : PointerState) : ℕ → Type 0 where
  -- 0 where r is no node or its attempt is passed over
  no_node : (Node e p map r → ⊥) → Exit e p map r q 0
  shut : Node e p map r → Shut e p map r q → Exit e p map r q 0
  -- where the attempt is open, the number that says where it leads
  leads : {target i : ℕ} {u : PointerState} → Node e p map r → Opens e p map r q target u i → Exit e p map r q (exit_number target (state_number u) i)
  -- where the attempt is a lost slide at which a run ends, the number of these (rule 16.5)
  stuck : Node e p map r → Stuck p map r q e → Exit e p map r q lost_slide

-- the whole table of n regions, in the room that it needs: the map (rule 7.1), a row (7.2) and eight exits (7.3) for each
-- region; the cells past the n regions and the work slice are 0 (7.4). The edition counts in the marks and the exits
pub record Builds (e : Edition) (p : Picture) (map rows exits work : List ℕ) (n : ℕ) : Type 0 where
  pub map_long : length map ≡ codels p
  pub rows_long : length rows ≡ rows_room (codels p)
  pub exits_long : length exits ≡ exits_room (codels p)
  pub regions : IsMap (grid_of p) map n
  pub row : (r : ℕ) → r < n → Row (grid_of p) p.codel (codels p) map r (row_at rows r)
  pub node : (r : ℕ) → r < n → Marks (Node e p map r) (row_at rows r).mark
  pub exit : (r s : ℕ) → r < n → s < 8 → Exit e p map r (of_number s) (exit_at exits r s)
  pub rows_rest : (r : ℕ) → n ≤ r → row_at rows r ≡ blank
  pub exits_rest : (r s : ℕ) → n ≤ r → s < 8 → exit_at exits r s ≡ 0
  pub work_zero : work ≡ replicate (codels p) 0
