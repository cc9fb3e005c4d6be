-- The regions that are found in an edition, and the nodes among them (rules 6.1, 6.2, 16.5). Assumes nothing.
use Rattle.std.specs.Prelude.{◌≡◌, List, ℕ, ◌<◌, get_or}
use Rattle.base.specs.declared.edition.Edition.{Edition}
use Rattle.flow.specs.Pointer.{Valid}
use Rattle.flow.specs.declared.PointerState.{PointerState}
use Rattle.colour.specs.Palette.{white}
use Rattle.picture.specs.Picture.{Picture, codels, codel_colour}
use Rattle.exit.specs.declared.attempt.Way.{Way}
use Rattle.exit.specs.declared.attempt.Way.TheVariants.{Step, Astray, Glide}
use Rattle.exit.specs.Opens.{region_at, Tried}

-- the regions that a way adds: that of the codel ahead, where it is not shut, and that of its slide's landing (rule 6.1)
pub data Adds (p : Picture) (map : List ℕ) : Way → ℕ → Type 0 where
  beside : {a b : ℕ} → Adds p map (Step a b) (region_at p map a b)
  astray : {a b : ℕ} → Adds p map (Astray a b) (region_at p map a b)
  over : {a b c d : ℕ} {t : PointerState} → Adds p map (Glide a b c d t) (region_at p map a b)
  landing : {a b c d : ℕ} {t : PointerState} → Adds p map (Glide a b c d t) (region_at p map c d)

-- found: region 0, and what the eight attempts of a found region, white or not, add (rule 6.1)
pub data Found (e : Edition) (p : Picture) (map : List ℕ) : ℕ → Type 0 where
  entry : Found e p map 0
  next : {r q : ℕ} {s : PointerState} {w : Way} → Found e p map r → Valid s → Tried e p map r s w → Adds p map w q → Found e p map q

-- region r has a white codel (and so has only white ones)
pub record White (p : Picture) (map : List ℕ) (r : ℕ) : Type 0 where
  pub codel : ℕ
  pub inside : codel < codels p
  pub own : get_or map codel 0 ≡ r
  pub colour : codel_colour p codel ≡ white

-- a node: found, and not white (rule 6.2)
pub record Node (e : Edition) (p : Picture) (map : List ℕ) (r : ℕ) : Type 0 where
  pub found : Found e p map r
  pub coloured : White p map r → ⊥
