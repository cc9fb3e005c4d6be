-- The small pictures of rule 5.5, walked by the definitions in both editions. Red is 6, black 18, white 19; a state is written
-- by its number. Assumes nothing.
use mathlib.Core.Path.{refl}
use mathlib.Core.List.{[], ◌∷◌}
use Prim.Native.Nat.{ℕ}
use Rattle.std.specs.Prelude.{None}
use Rattle.base.specs.declared.edition.Edition.{Edition}
use Rattle.base.specs.declared.edition.Edition.TheVariants.{Rust, Page}
use Rattle.flow.specs.Pointer.{of_number}
use Rattle.flow.specs.declared.PointerState.{PointerState}
use Rattle.flow.specs.Neighbour.{ahead_of}
use Rattle.picture.specs.Picture.{Picture, picture}
use Rattle.exit.specs.declared.attempt.Way.{Way}
use Rattle.exit.specs.declared.attempt.Way.TheVariants.{Closed, Glide, Astray}
use Rattle.exit.specs.Trail.{turns_of, eighth_turn, occurs, comes_back, lost_by}
use Rattle.exit.specs.Slide.{seen_as, seen, look_of, lost, turn, move, land, Ends}
use Rattle.exit.specs.Attempt.{Attempt, shut, glide, lost as astray}
use Rattle.exit.proofs.Editions.{glide_both}

-- an attempt from the first codel
abbrev Leaving : Edition → Picture → ℕ → Way → Type 0
Leaving e p state w = Attempt e p 0 0 (of_number state) w

-- where a slide lands in edition 1, it does so in both
in_both : {p : Picture} {r c x y a b : ℕ} {s t : PointerState} → Attempt Rust p r c s (Glide x y a b t) → (e : Edition) → Attempt e p r c s (Glide x y a b t)
in_both x Rust = x
in_both x Page = glide_both x

-- red, white: two turns at the white codel, and so back to itself in state 4 and in state 5
abbrev pub red_white : Picture
red_white = picture 1 2 1 (6 ∷ 19 ∷ [])

pub back_to_itself : (e : Edition) → Leaving e red_white 0 (Glide 0 1 0 0 (of_number 4)) × Leaving e red_white 1 (Glide 0 1 0 0 (of_number 5))
unfolding seen_as seen look_of ahead_of turns_of eighth_turn
back_to_itself e = (
  in_both (glide refl (record { trail = _; slides = turn refl refl (turn refl refl (land refl refl)) })) e,
  in_both (glide refl (record { trail = _; slides = turn refl refl (turn refl refl (land refl refl)) })) e,
)

-- red, white, red: straight on, in the same state
abbrev pub red_white_red : Picture
red_white_red = picture 1 3 1 (6 ∷ 19 ∷ 6 ∷ [])

pub straight_on : (e : Edition) → Leaving e red_white_red 0 (Glide 0 1 0 2 (of_number 0)) × Leaving e red_white_red 1 (Glide 0 1 0 2 (of_number 1))
unfolding seen_as seen look_of ahead_of turns_of eighth_turn
straight_on e =
    (in_both (glide refl (record { trail = _; slides = land refl refl })) e, in_both (glide refl (record { trail = _; slides = land refl refl })) e)

-- red, white, white over black, white, white: no attempt is open
abbrev pub round : Picture
round = picture 2 3 1 (6 ∷ 19 ∷ 19 ∷ 18 ∷ 19 ∷ 19 ∷ [])

-- edition 1: twice round the white square are eight turns
pub twice_round : (cc : ℕ) → Ends round eighth_turn 0 1 (record { dp = 0; cc = cc }) None
unfolding seen_as seen look_of ahead_of turns_of eighth_turn
twice_round cc =
    record {
      trail = _;
      slides =
          move refl refl (turn refl refl
          (move refl refl (turn refl refl
          (move refl refl (turn refl refl
          (move refl refl (turn refl refl
          (move refl refl (turn refl refl
          (move refl refl (turn refl refl
          (move refl refl (turn refl refl
          (move refl refl (turn refl refl
          (lost refl))))))))))))))));
    }

-- edition 2: once round it comes back to its first station
pub once_round : (cc : ℕ) → Ends round comes_back 0 1 (record { dp = 0; cc = cc }) None
unfolding seen_as seen look_of ahead_of occurs comes_back
once_round cc =
    record {
      trail = _;
      slides =
          move refl refl (turn refl refl
          (move refl refl (turn refl refl
          (move refl refl (turn refl refl
          (move refl refl (turn refl refl
          (lost refl))))))));
    }

round_lost : (e : Edition) (cc : ℕ) → Ends round (lost_by e) 0 1 (record { dp = 0; cc = cc }) None
round_lost Rust = twice_round
round_lost Page = once_round

pub none_open : (e : Edition)
    → Leaving e round 0 (Astray 0 1)
    × Leaving e round 1 (Astray 0 1)
    × Leaving e round 2 Closed
    × Leaving e round 3 Closed
    × Leaving e round 4 Closed
    × Leaving e round 5 Closed
    × Leaving e round 6 Closed
    × Leaving e round 7 Closed
unfolding seen_as seen look_of ahead_of
none_open e = (astray refl (round_lost e 0), astray refl (round_lost e 1), shut refl, shut refl, shut refl, shut refl, shut refl, shut refl)
