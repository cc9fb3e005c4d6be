-- Inner: what the search for nodes keeps: the marks in the region rows, the queue in the work slice, and the exits that are
-- settled; no public contract cites it. Assumes nothing.
use Rattle.std.specs.Prelude.{◌≡◌, ◌≢◌, Bool, true, false, cond, not, List, ℕ, zero, suc, ◌+◌, ◌*◌, ◌<◌, ◌≤◌, eqb, length, get_or, set}
use Rattle.base.specs.declared.edition.Edition.{Edition}
use Rattle.base.specs.Edition.{by_edition}
use Rattle.flow.specs.Pointer.{Valid, state_number, of_number}
use Rattle.flow.specs.declared.PointerState.{PointerState}
use Rattle.cfg.specs.Nodes.{Adds, Found}
use Rattle.cfg.specs.Table.{Marks}
use Rattle.colour.specs.Palette.{white}
use Rattle.colour.specs.Decode.{decode_of}
use Rattle.picture.specs.Picture.{Picture, Inside, rows_of, cols_of, codels, colour_at, codel_colour, Sound}
use Rattle.table.specs.Layout.{colour_field, mark_field, row_cell, exit_cell, rows_room, exits_room, field_at, exit_at, mark_of}
use Rattle.region.specs.Grid.{grid_of}
use Rattle.region.specs.Region.{IsMap}
use Rattle.region.specs.Rows.{IsTable}
use Rattle.exit.specs.declared.attempt.Way.{Way}
use Rattle.exit.specs.declared.attempt.Way.TheVariants.{Closed, Step, Astray, Glide}
use Rattle.exit.specs.Leaving.{LeavesBy}
use Rattle.exit.specs.Opens.{region_at, Tried}
use Rattle.table.specs.ExitNumber.{exit_number, lost_slide}

-- how many of the first n regions have no mark
unfoldable pub bare : ℕ → List ℕ → ℕ
bare zero rows = 0
bare (suc n) rows = cond (eqb (mark_of rows n) 0) 1 0 + bare n rows

-- a row for each cell of the work slice, and room in it for each region without a mark
pub record Room (rows work : List ℕ) (tail : ℕ) : Type 0 where
  pub few : length work ≤ 65536
  pub long : rows_room (length work) ≤ length rows
  pub free : bare (length work) rows + tail ≤ length work

-- region q is marked and queued, where it had no mark
pub data Visit (q : ℕ) (rows work : List ℕ) (tail : ℕ) : List ℕ → List ℕ → ℕ → Type 0 where
  pushed : mark_of rows q ≡ 0 → Visit q rows work tail (set rows (row_cell q mark_field) 1) (set work tail q) (tail + 1)
  kept : mark_of rows q ≢ 0 → Visit q rows work tail rows work tail

-- the regions that a way adds are visited
pub data Queued (map : List ℕ) (cols : ℕ) (rows work : List ℕ) (tail : ℕ) : Way → List ℕ → List ℕ → ℕ → Type 0 where
  closed : Queued map cols rows work tail Closed rows work tail
  step : {a b tail' : ℕ} {rows' work' : List ℕ} → Visit (get_or map (a * cols + b) 0) rows work tail rows' work' tail'
      → Queued map cols rows work tail (Step a b) rows' work' tail'
  astray : {a b tail' : ℕ} {rows' work' : List ℕ} → Visit (get_or map (a * cols + b) 0) rows work tail rows' work' tail'
      → Queued map cols rows work tail (Astray a b) rows' work' tail'
  glide : {a b c d tail' tail'' : ℕ} {t : PointerState} {rows' work' rows'' work'' : List ℕ} → Visit (get_or map (a * cols + b) 0) rows work tail rows' work' tail'
      → Visit (get_or map (c * cols + d) 0) rows' work' tail' rows'' work'' tail''
      → Queued map cols rows work tail (Glide a b c d t) rows'' work'' tail''

-- the codels of a way are in the grid
abbrev pub InGrid : Picture → Way → Type 0
InGrid p Closed = 0 ≤ 0
InGrid p (Step a b) = Inside p a b
InGrid p (Astray a b) = Inside p a b
InGrid p (Glide a b c d t) = Inside p a b × Inside p c d × Valid t

-- a map of the picture, its numbers below the count of codels
pub record Grounds (p : Picture) (map : List ℕ) : Type 0 where
  pub sound : Sound p
  pub long : length map ≡ codels p
  pub low : (j : ℕ) → j < codels p → get_or map j 0 < codels p

-- r is the number of a codel
pub record Occurs (map : List ℕ) (r : ℕ) : Type 0 where
  pub codel : ℕ
  pub inside : codel < length map
  pub own : get_or map codel 0 ≡ r

-- a region that was queued
pub record Waiting (e : Edition) (p : Picture) (map rows : List ℕ) (r : ℕ) : Type 0 where
  pub occurs : Occurs map r
  pub marked : mark_of rows r ≡ 1
  pub found : Found e p map r

-- the queue, with what it has held before: each marked region once
pub record Queue (e : Edition) (p : Picture) (map rows work : List ℕ) (tail : ℕ) : Type 0 where
  pub room : Room rows work tail
  pub waits : (q : ℕ) → q < tail → Waiting e p map rows (get_or work q 0)
  pub distinct : (a b : ℕ) → a < b → b < tail → get_or work a 0 ≢ get_or work b 0
  pub bit : (r : ℕ) → mark_of rows r ≤ 1
  pub seen : (r : ℕ) → mark_of rows r ≡ 1 → (q : ℕ) × (q < tail) × (get_or work q 0 ≡ r)

-- the queue has grown: marks and what is queued stay, and no other field of a row changes
pub record Onward (e : Edition) (p : Picture) (map rows work : List ℕ) (tail : ℕ) (rows' work' : List ℕ) (tail' : ℕ) : Type 0 where
  pub queue : Queue e p map rows' work' tail'
  pub on : tail ≤ tail'
  pub marks : (r : ℕ) → mark_of rows r ≡ 1 → mark_of rows' r ≡ 1
  pub old : (q : ℕ) → q < tail → get_or work' q 0 ≡ get_or work q 0
  pub cells : (r f : ℕ) → f < 5 → f ≢ mark_field → field_at rows' r f ≡ field_at rows r f
  pub rows_length : length rows' ≡ length rows
  pub work_length : length work' ≡ length work

-- the exit of a lost slide: in edition 1 there is none (rule 16.5)
abbrev pub lost_exit : Edition → ℕ
lost_exit e = by_edition e 0 lost_slide

-- what the code makes of a way, from a region of the colour `from` in state s: the number of its exit, 0 where there is none
unfoldable pub way_number : Edition → Picture → List ℕ → ℕ → ℕ → Way → ℕ
way_number e p map from s Closed = 0
way_number e p map from s (Astray a b) = lost_exit e
way_number e p map from s (Step a b) = exit_number (region_at p map a b) s (decode_of from (colour_at p a b))
way_number e p map from s (Glide a b c d t) = exit_number (region_at p map c d) (state_number t) 0

-- x is the number of region r's attempt in state s
pub record Number (e : Edition) (p : Picture) (map : List ℕ) (r s x : ℕ) : Type 0 where
  pub way : Way
  pub tried : Tried e p map r (of_number s) way
  pub number : x ≡ way_number e p map (codel_colour p tried.codel) s way

-- and what the attempt adds is marked
pub record Settled (e : Edition) (p : Picture) (map rows : List ℕ) (r s x : ℕ) : Type 0 where
  pub is : Number e p map r s x
  pub marked : (q : ℕ) → Adds p map is.way q → mark_of rows q ≡ 1

-- state s of region r is settled
pub record Tries (e : Edition) (p : Picture) (map : List ℕ) (r s : ℕ) (rows exits work : List ℕ) (tail : ℕ) (rows' exits' work' : List ℕ) (tail' : ℕ) : Type 0 where
  pub onward : Onward e p map rows work tail rows' work' tail'
  pub value : ℕ
  pub stored : exits' ≡ set exits (exit_cell r s) value
  pub settled : Settled e p map rows' r s value

-- the states below k of region r are settled, and no other exit changes
pub record Several (e : Edition) (p : Picture) (map : List ℕ) (r k : ℕ) (rows exits work : List ℕ) (tail : ℕ) (rows' exits' work' : List ℕ) (tail' : ℕ) : Type 0 where
  pub onward : Onward e p map rows work tail rows' work' tail'
  pub settled : (s : ℕ) → s < k → Settled e p map rows' r s (exit_at exits' r s)
  pub same : (q s : ℕ) → s < 8 → (q ≡ r → k ≤ s) → exit_at exits' q s ≡ exit_at exits q s
  pub exits_length : length exits' ≡ length exits

-- the exits hold the codels to leave by
abbrev pub Leaving : Picture → List ℕ → List ℕ → ℕ → Type 0
Leaving p map exits r = (s : ℕ) → s < 8 → LeavesBy map (rows_of p) (cols_of p) (of_number s) r (exit_at exits r s)

-- region r is taken from the queue: its exits hold the codels to leave by
pub record Taken (e : Edition) (p : Picture) (map exits work : List ℕ) (r : ℕ) : Type 0 where
  pub grounds : Grounds p map
  pub found : Found e p map r
  pub leaving : Leaving p map exits r
  pub work_long : length work ≡ codels p
  pub exits_long : exits_room (r + 1) ≤ length exits
  pub few : r < 65536

-- what the search begins with
pub record Ready (p : Picture) (map rows exits work : List ℕ) : Type 0 where
  pub grounds : Grounds p map
  pub rows_long : length rows ≡ rows_room (codels p)
  pub exits_long : length exits ≡ exits_room (codels p)
  pub work_long : length work ≡ codels p
  pub first : get_or map 0 0 ≡ 0
  pub unmarked : (r : ℕ) → mark_of rows r ≡ 0
  pub leaving : (j : ℕ) → j < length map → Leaving p map exits (get_or map j 0)

-- what the search leaves: the found regions are marked and their exits are settled
pub record Searched (e : Edition) (p : Picture) (map rows exits rows' exits' : List ℕ) : Type 0 where
  pub marks : (r : ℕ) → Marks (Found e p map r) (mark_of rows' r)
  pub settled : (r : ℕ) → Found e p map r → (s : ℕ) → s < 8 → Number e p map r s (exit_at exits' r s)
  pub same : (r s : ℕ) → s < 8 → (Found e p map r → ⊥) → exit_at exits' r s ≡ exit_at exits r s
  pub cells : (r f : ℕ) → f < 5 → f ≢ mark_field → field_at rows' r f ≡ field_at rows r f

-- a row of a region that is marked and not white
abbrev pub is_node : List ℕ → ℕ → Bool
is_node rows r = cond (eqb (field_at rows r colour_field) white) false (not (eqb (mark_of rows r) 0))

-- region r's mark and exits are kept where it is a node, and 0 where it is none
pub data Kept (r : ℕ) (rows exits rows' exits' : List ℕ) : Type 0 where
  stays : is_node rows r ≡ true → mark_of rows' r ≡ mark_of rows r → ((s : ℕ) → s < 8 → exit_at exits' r s ≡ exit_at exits r s) → Kept r rows exits rows' exits'
  goes : is_node rows r ≡ false → mark_of rows' r ≡ 0 → ((s : ℕ) → s < 8 → exit_at exits' r s ≡ 0) → Kept r rows exits rows' exits'

-- one region is kept or not, and nothing else changes
pub record Keeps (r : ℕ) (rows exits rows' exits' : List ℕ) : Type 0 where
  pub kept : Kept r rows exits rows' exits'
  pub rows_same : (q f : ℕ) → f < 5 → (q ≡ r → f ≢ mark_field) → field_at rows' q f ≡ field_at rows q f
  pub exits_same : (q s : ℕ) → s < 8 → q ≢ r → exit_at exits' q s ≡ exit_at exits q s

-- the exits of region r in the states below k are 0, and no other exit changes
pub record Zeros (r k : ℕ) (exits exits' : List ℕ) : Type 0 where
  pub zero : (s : ℕ) → s < k → exit_at exits' r s ≡ 0
  pub same : (q s : ℕ) → s < 8 → (q ≡ r → k ≤ s) → exit_at exits' q s ≡ exit_at exits q s

-- the regions below n are kept or not, and nothing else changes
pub record Cleared (n : ℕ) (rows exits rows' exits' : List ℕ) : Type 0 where
  pub each : (r : ℕ) → r < n → Kept r rows exits rows' exits'
  pub rows_same : (q f : ℕ) → f < 5 → (q < n → f ≢ mark_field) → field_at rows' q f ≡ field_at rows q f
  pub exits_same : (q s : ℕ) → s < 8 → n ≤ q → exit_at exits' q s ≡ exit_at exits q s

-- the map and the rows are written; no region is marked
pub record Begun (p : Picture) (map : List ℕ) (n : ℕ) (rows : List ℕ) : Type 0 where
  pub sound : Sound p
  pub map_long : length map ≡ codels p
  pub regions : IsMap (grid_of p) map n
  pub table : IsTable (grid_of p) p.codel n map rows
  pub rows_long : length rows ≡ rows_room (codels p)

-- slices of exactly the room that a picture's table needs
pub record Sized (p : Picture) (map rows exits work : List ℕ) : Type 0 where
  pub sound : Sound p
  pub map_long : length map ≡ codels p
  pub rows_long : length rows ≡ rows_room (codels p)
  pub exits_long : length exits ≡ exits_room (codels p)
  pub work_long : length work ≡ codels p
