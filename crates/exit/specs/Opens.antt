-- What an attempt of a region comes to, by walking codels (rules 4.2 to 4.4, 5.1 to 5.4, 16.6, 16.8). A region is named by its number
-- in `map`, the numbering of the picture's regions by first codels, which the picture determines. Assumes nothing.
use Rattle.std.specs.Prelude.{List, ℕ, ◌/◌, ◌%◌, get_or}
use Rattle.base.specs.declared.edition.Edition.{Edition}
use Rattle.base.specs.declared.edition.Edition.TheVariants.{Page}
use Rattle.flow.specs.declared.PointerState.{PointerState}
use Rattle.colour.specs.Instruction.{none}
use Rattle.colour.specs.Decode.{decode_of}
use Rattle.picture.specs.Picture.{Picture, rows_of, cols_of, colour_at, index_of, codel_colour}
use Rattle.exit.specs.declared.attempt.Way.{Way}
use Rattle.exit.specs.declared.attempt.Way.TheVariants.{Step, Astray, Glide}
use Rattle.exit.specs.Attempt.{Attempt}
use Rattle.exit.specs.Leaving.{LeavesBy}

-- the region of the codel in row r and column c
abbrev pub region_at : Picture → List ℕ → ℕ → ℕ → ℕ
region_at p map r c = get_or map (index_of p r c) 0

-- the attempt of region r in the state q: from the codel to leave by, the way w
pub record Tried (e : Edition) (p : Picture) (map : List ℕ) (r : ℕ) (q : PointerState) (w : Way) : Type 0 where
  pub codel : ℕ
  pub leaves : LeavesBy map (rows_of p) (cols_of p) q r codel
  pub way : Attempt e p (codel / cols_of p) (codel % cols_of p) q w

-- the attempt is open: it leads to a region, with new pointers and an instruction
pub data Opens (e : Edition) (p : Picture) (map : List ℕ) (r : ℕ) (q : PointerState) : ℕ → PointerState → ℕ → Type 0 where
  -- into the region of a coloured codel ahead, in the same state, with the instruction of the change of colour (rule 4.4)
  beside : {a b : ℕ} (t : Tried e p map r q (Step a b))
      → Opens e p map r q (region_at p map a b) q (decode_of (codel_colour p t.codel) (colour_at p a b))
  -- into the region where a slide lands, in the state that it has then, with no instruction (rule 5.3)
  across : {a b c d : ℕ} {u : PointerState} → Tried e p map r q (Glide a b c d u)
      → Opens e p map r q (region_at p map c d) u none

-- the attempt is a lost slide at which a run of edition 2 ends (rule 16.6); in edition 1 a lost slide is merely not open
-- (rule 5.4), so that nothing is stuck
pub data Stuck (p : Picture) (map : List ℕ) (r : ℕ) (q : PointerState) : Edition → Type 0 where
  lost : {a b : ℕ} → Tried Page p map r q (Astray a b) → Stuck p map r q Page

-- the attempt is passed over: it is not open, and in edition 2 not a lost slide either
pub record Shut (e : Edition) (p : Picture) (map : List ℕ) (r : ℕ) (q : PointerState) : Type 0 where
  pub never : (target : ℕ) (u : PointerState) (i : ℕ) → Opens e p map r q target u i → ⊥
  pub unstuck : Stuck p map r q e → ⊥
