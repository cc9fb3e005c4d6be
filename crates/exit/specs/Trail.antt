-- The trail that a slide over white leaves, and when a slide is lost by it: at its eighth turn in edition 1 (rule 5.4), where it
-- comes back in edition 2 (rule 16.8). Assumes nothing.
use Rattle.std.specs.Prelude.{Bool, false, cond, ◌&&◌, ◌||◌, List, [], ◌∷◌, ℕ, ◌+◌, eqb, leb}
use Rattle.base.specs.declared.edition.Edition.{Edition}
use Rattle.base.specs.Edition.{by_edition}
use Rattle.flow.specs.declared.PointerState.{PointerState}

-- a codel with a dp: what decides where a slide goes on; cc has no part in that, and goes along
pub record Station : Type 0 where
  pub row : ℕ
  pub col : ℕ
  pub dp : ℕ

abbrev pub station : ℕ → ℕ → PointerState → Station
station r c s = record { row = r; col = c; dp = s.dp }

-- the stations that a slide has had, the present one first
abbrev pub Trail : Type 0
Trail = List Station

-- the turns of a trail: a turn leads to another dp, a move does not
unfoldable pub turns_of : Trail → ℕ
turns_of [] = 0
turns_of (a ∷ []) = 0
turns_of (a ∷ b ∷ t) = cond (eqb a.dp b.dp) 0 1 + turns_of (b ∷ t)

-- when a trail is that of a lost slide
abbrev pub Rule : Type 0
Rule = Trail → Bool

-- edition 1: a slide is lost at its eighth turn, counted over all of it (rule 5.4)
abbrev pub most_turns : ℕ
most_turns = 8

unfoldable pub eighth_turn : Rule
eighth_turn t = leb most_turns (turns_of t)

-- the same codel with the same dp
abbrev pub same_station : Station → Station → Bool
same_station a b = eqb a.row b.row && (eqb a.col b.col && eqb a.dp b.dp)

-- the station is one of a trail
unfoldable pub occurs : Station → Trail → Bool
occurs a [] = false
occurs a (b ∷ t) = same_station a b || occurs a t

-- edition 2: a slide is lost where it comes to a codel with a dp that it had there before (rule 16.8)
unfoldable pub comes_back : Rule
comes_back [] = false
comes_back (a ∷ past) = occurs a past

-- the rule of an edition
abbrev pub lost_by : Edition → Rule
lost_by e = by_edition e eighth_turn comes_back

-- the rule by which no slide is ever lost: only a landing ends it
abbrev pub never_lost : Rule
never_lost t = false
