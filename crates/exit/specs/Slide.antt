-- What is ahead of a codel, and the slide over white (rules 4.3, 5.2 to 5.4, 16.8). Assumes nothing.
use Rattle.std.specs.Prelude.{◌≡◌, true, false, cond, [], ◌∷◌, ℕ, ◌-◌, eqb, length, Option, Some, None}
use Rattle.colour.specs.Palette.{black, white}
use Rattle.flow.specs.Pointer.{turned_once}
use Rattle.flow.specs.Neighbour.{ahead_of}
use Rattle.flow.specs.declared.PointerState.{PointerState}
use Rattle.picture.specs.Picture.{Picture, rows_of, cols_of, colour_at}
use Rattle.exit.specs.declared.slide.Landed.{Landed}
use Rattle.exit.specs.declared.slide.Sight.{Sight}
use Rattle.exit.specs.declared.slide.Sight.TheVariants.{Shut, White, Coloured}
use Rattle.exit.specs.Trail.{station, Trail, Rule}

-- what codel (r, c) of a colour is seen as
unfoldable pub seen_as : ℕ → ℕ → ℕ → Sight
seen_as colour r c = cond (eqb colour black) Shut (cond (eqb colour white) (White r c) (Coloured r c))

-- black and what is outside are shut (rule 4.3)
unfoldable pub seen : Picture → Option (ℕ × ℕ) → Sight
seen p None = Shut
seen p (Some (r, c)) = seen_as (colour_at p r c) r c

-- what is one codel along dp from codel (r, c)
unfoldable pub look_of : Picture → ℕ → ℕ → ℕ → Sight
look_of p r c dp = seen p (ahead_of (rows_of p) (cols_of p) r c dp)

-- where a slide lands: a codel, and the state that it has then
abbrev pub landed : ℕ → ℕ → PointerState → Landed
landed r c s = record { row = r; col = c; state = s }

-- `Slide p rule past r c s t o`: a slide that has had the stations `past` stands at codel (r, c) in state s; it lands at o, or is
-- lost where o is none, and its trail is then t
pub data Slide (p : Picture) (rule : Rule) : Trail → ℕ → ℕ → PointerState → Trail → Option Landed → Type 0 where
  -- by the rule this is the station at which it is lost
  lost : {past : Trail} {r c : ℕ} {s : PointerState} → rule (station r c s ∷ past) ≡ true
      → Slide p rule past r c s (station r c s ∷ past) None
  -- shut ahead: it turns where it is, which is one turn more (rule 5.2)
  turn : {past t : Trail} {r c : ℕ} {s : PointerState} {o : Option Landed} → rule (station r c s ∷ past) ≡ false → look_of p r c s.dp ≡ Shut
      → Slide p rule (station r c s ∷ past) r c (turned_once s) t o → Slide p rule past r c s t o
  -- white ahead: it moves there (rule 5.2), and the turns stay counted
  move : {past t : Trail} {r c r' c' : ℕ} {s : PointerState} {o : Option Landed} → rule (station r c s ∷ past) ≡ false → look_of p r c s.dp ≡ White r' c'
      → Slide p rule (station r c s ∷ past) r' c' s t o → Slide p rule past r c s t o
  -- a coloured codel ahead: it ends there, in the state that it has (rule 5.3)
  land : {past : Trail} {r c r' c' : ℕ} {s : PointerState} → rule (station r c s ∷ past) ≡ false → look_of p r c s.dp ≡ Coloured r' c'
      → Slide p rule past r c s (station r c s ∷ past) (Some (landed r' c' s))

-- the slide from codel (r, c) in state s ends in o: its trail begins there
pub record Ends (p : Picture) (rule : Rule) (r c : ℕ) (s : PointerState) (o : Option Landed) : Type 0 where
  pub trail : Trail
  pub slides : Slide p rule [] r c s trail o

-- how often a slide has looked ahead: once from each station of its trail, but not from the one at which it is lost
unfoldable pub looks_of : Option Landed → Trail → ℕ
looks_of (Some o) t = length t
looks_of None t = length t - 1
