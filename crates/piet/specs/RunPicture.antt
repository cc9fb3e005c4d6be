-- From pixels to a run's result, over lent room (rules 8.4 to 8.6, 12.5). Assumes nothing.
use Rattle.std.specs.Prelude.{◌≡◌, List, [], ◌∷◌, ◌++◌, ℕ, ◌<◌, length, take, ℤ, Result, Ok, Err}
use Rattle.base.specs.Edition.{edition_of}
use Rattle.base.specs.Numbers.{Numbers, numbers, Row, first}
use Rattle.base.specs.Refusal.{place_cells, answered}
use Rattle.base.specs.declared.refusal.Refusal.{Refusal}
use Rattle.base.specs.Lent.{lent}
use Rattle.picture.specs.Picture.{Picture, picture, codels}
use Rattle.colour.specs.Classify as classifying
use Rattle.colour.specs.Classify.{colours_under}
use Rattle.cfg.specs.Build as building
use Rattle.cfg.specs.Build.{Written}
use Rattle.machine.specs.Machine.{Asks, given_of}
use Rattle.machine.specs.Place.{End}
use Rattle.machine.specs.Held as held
use Rattle.machine.specs.Held.{Slices, room_of}
use Rattle.interpreter.specs.Outcome.{slices_of, ended_of, result_of}
use Rattle.piet.specs.declared.run_picture.Pictured.{Pictured}
use Rattle.piet.specs.Follows.{Follows}

-- what a call is given, besides what it is lent
pub record Asked : Type 0 where
  pub pixels : List ℕ
  pub height : ℕ
  pub width : ℕ
  pub setting : ℕ
  pub codel : ℕ
  pub asks : Asks

-- what it is lent: the room of the colours, of the table and of the run
pub record Lends : Type 0 where
  pub colours : List ℕ
  pub map : List ℕ
  pub rows : List ℕ
  pub exits : List ℕ
  pub work : List ℕ
  pub run : Slices

-- the picture that is run: a colour for each pixel
abbrev pub asked_picture : Asked → Picture
asked_picture a = picture a.height a.width a.codel (colours_under a.pixels a.setting)

-- an unknown edition, then the refusals of classifying, then those of building (rule 12.5): the tables, one after the other;
-- the last five numbers are the lengths of the lent slices
unfoldable pub refusals : Asked → ℕ → ℕ → ℕ → ℕ → ℕ → List Row
refusals a colours map rows exits work =
    building.edition_row a.asks.edition
    ∷ (classifying.refusals a.pixels a.height a.width a.setting colours ++ building.picture_refusals (asked_picture a) map rows exits work)

unfoldable pub refusal : Asked → ℕ → ℕ → ℕ → ℕ → ℕ → Numbers
refusal a colours map rows exits work = first (refusals a colours map rows exits work) (numbers 0 (0 ∷ 0 ∷ []))

abbrev pub refusal_of : Asked → Lends → Numbers
refusal_of a l = refusal a (length l.colours) (length l.map) (length l.rows) (length l.exits) (length l.work)

-- the refusal's number, with the place of an unknown pixel (rule 12.2); or 0, with the run's result and then the count of
-- regions (rule 8.5)
abbrev pub numbered : Result Pictured Refusal → Numbers
numbered = answered (λ p. result_of p.ended ++ (p.regions ∷ [])) place_cells

-- what a call leaves that is not refused, where the run ends in e: one edition is that of the table and of the run. Demand 3
-- is `follows`: the run is that of the picture, its regions numbered in the map by their first codels.
pub record RanPicture (a : Asked) (l l' : Lends) (e : End) : Type 0 where
  pub colours : l'.colours ≡ lent (colours_under a.pixels a.setting) l.colours
  pub regions : ℕ
  pub table : Written (edition_of a.asks.edition) (asked_picture a) l.map l.rows l.exits l.work l'.map l'.rows l'.exits l'.work regions
  pub follows : Follows (asked_picture a) (take (codels (asked_picture a)) l'.map) (given_of a.asks) (room_of l.run) e
  pub inside : e.at.region < regions
  pub run : l'.run ≡ slices_of l.run e.at.store

-- what a call answers and leaves: refused, with all that is lent as it was; or the end of the run, with the count of regions
pub data Outcome (a : Asked) (l : Lends) : Result Pictured Refusal → Lends → Type 0 where
  refused : (r : Refusal) → numbered (Err r) ≡ refusal_of a l → Outcome a l (Err r) l
  done : {e : End} {l' : Lends} → refusal_of a l ≡ numbers 0 (0 ∷ 0 ∷ []) → (R : RanPicture a l l' e)
      → Outcome a l (Ok (record { ended = ended_of e; regions = R.regions })) l'

-- the arguments of a call, in their order
abbrev pub asked : List ℕ → ℕ → ℕ → ℕ → ℕ → Asks → Asked
asked pixels height width setting codel asks =
    record { pixels = pixels; height = height; width = width; setting = setting; codel = codel; asks = asks }

abbrev pub lends : List ℕ → List ℕ → List ℕ → List ℕ → List ℕ → List ℤ → List ℕ → List ℤ → Lends
lends colours map rows exits work stack kinds values =
    record { colours = colours; map = map; rows = rows; exits = exits; work = work; run = held.slices stack kinds values }
