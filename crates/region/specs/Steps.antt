-- Inner: what the functions on the way promise of the map, the queue and the rows; no public contract cites it. Assumes
-- nothing.
use Rattle.std.specs.Prelude.{◌≡◌, ◌≢◌, ◌⊎◌, List, ℕ, ◌+◌, ◌*◌, ◌/◌, ◌%◌, ◌≤◌, ◌<◌, length, get_or, set, drop}
use Rattle.table.specs.Layout.{row_cell, colour_field, size_field, row_field, column_field}
use Rattle.region.specs.Tally.{tally}
use Rattle.region.specs.Grid.{Grid, count, Toward, Adjacent}
use Rattle.region.specs.Region.{Joined, Earlier}

-- what a codel without a number has in the map: no region's number, since there are at most 65,536 codels
abbrev pub unnumbered : ℕ
unnumbered = 65536

-- how many of the first n codels have no number
abbrev pub vacant : ℕ → List ℕ → ℕ
vacant n m = tally unnumbered n m

-- codel j is numbered k and put at the queue's tail, where it is inside, has no number and has this colour
pub data Visit (g : Grid) (colour k j : ℕ) (m w : List ℕ) (t : ℕ) : List ℕ → List ℕ → ℕ → Type 0 where
  pushed : j < count g → get_or m j 0 ≡ unnumbered → g.colour j ≡ colour → Visit g colour k j m w t (set m j k) (set w t j) (t + 1)
  kept : (j < count g → get_or m j 0 ≡ unnumbered → g.colour j ≡ colour → ⊥) → Visit g colour k j m w t m w t

-- a codel j next to i that has got the number k, and stands in the queue from t on
pub record New (g : Grid) (k i : ℕ) (m : List ℕ) (t : ℕ) (m' w' : List ℕ) (t' j : ℕ) : Type 0 where
  pub was : get_or m j 0 ≡ unnumbered
  pub is : get_or m' j 0 ≡ k
  pub next : Adjacent g i j
  pub colour : g.colour i ≡ g.colour j
  pub at : ℕ
  pub from : t ≤ at
  pub until : at < t'
  pub stands : get_or w' at 0 ≡ j

-- the codels one step from i toward a way below d, and of i's colour, have been numbered k and queued, where they had no
-- number
pub record Spread (g : Grid) (k i d : ℕ) (m w : List ℕ) (t : ℕ) (m' w' : List ℕ) (t' : ℕ) : Type 0 where
  pub on : t ≤ t'
  pub cells : (j : ℕ) → j < count g → (get_or m' j 0 ≡ get_or m j 0) ⊎ New g k i m t m' w' t' j
  pub old : (q : ℕ) → q < t → get_or w' q 0 ≡ get_or w q 0
  pub new : (q : ℕ) → t ≤ q → q < t' → (get_or w' q 0 < count g) × (get_or m' (get_or w' q 0) 0 ≡ k)
  pub reach : (e : ℕ) → e < d → (j : ℕ) → j < count g → Toward g.cols e i j → g.colour i ≡ g.colour j → get_or m' j 0 ≢ unnumbered
  -- each codel is queued once, so the queue never outgrows the codels
  pub room : vacant (count g) m' + t' ≤ count g
  pub map_length : length m' ≡ length m
  pub work_length : length w' ≡ length w
  pub map_rest : drop (count g) m' ≡ drop (count g) m
  pub work_rest : drop (count g) w' ≡ drop (count g) w

-- m has the numbers of the first k regions, and no number for the other codels; every codel before i has a number
pub record Part (g : Grid) (i k : ℕ) (m : List ℕ) : Type 0 where
  pub few : k ≤ i
  pub passed : (j : ℕ) → j < i → get_or m j 0 ≢ unnumbered
  pub below : (j : ℕ) → j < count g → get_or m j 0 ≢ unnumbered → get_or m j 0 < k
  pub even : (j l : ℕ) → Adjacent g j l → g.colour j ≡ g.colour l → get_or m j 0 ≡ get_or m l 0
  pub one : (j l : ℕ) → j < count g → l < count g → get_or m j 0 ≢ unnumbered → get_or m j 0 ≡ get_or m l 0 → Joined g j l
  pub used : (r : ℕ) → r < k → Earlier m i r
  pub order : (j : ℕ) → j < count g → get_or m j 0 ≢ unnumbered → (r : ℕ) → r < get_or m j 0 → Earlier m j r

-- what a step of the numbering leaves: the map of the first k regions, with every codel before i numbered, and the rest of
-- both slices as it was
pub record Numbered (g : Grid) (i k : ℕ) (m w m' w' : List ℕ) : Type 0 where
  pub part : Part g i k m'
  pub map_rest : drop (count g) m' ≡ drop (count g) m
  pub work_rest : drop (count g) w' ≡ drop (count g) w

-- the row r begun with its first codel, i
unfoldable pub begun : Grid → ℕ → ℕ → ℕ → List ℕ → List ℕ
begun g codel i r t =
    set
    (set (set (set t (row_cell r colour_field) (g.colour i)) (row_cell r size_field) 1) (row_cell r row_field) (i / g.cols * codel))
    (row_cell r column_field)
    (i % g.cols * codel)

-- codel i, of region r, is counted in r's row, which is begun where its size is 0
pub data Noted (g : Grid) (codel i r : ℕ) (t : List ℕ) : List ℕ → Type 0 where
  counted : get_or t (row_cell r size_field) 0 ≢ 0 → Noted g codel i r t (set t (row_cell r size_field) (get_or t (row_cell r size_field) 0 + 1))
  started : get_or t (row_cell r size_field) 0 ≡ 0 → Noted g codel i r t (begun g codel i r t)
