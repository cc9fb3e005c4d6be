-- Long slides by their trail, on small pictures (rules 5.4, 16.8). Red is 6, black 18, white 19; a state is written by its number.
--     later_back       a slide of edition 2 that comes back to another station than its first
--     first_back       one that comes back to its first
--     crossing_lost, crossing_lands    the smallest picture, red first, whose run takes a slide of edition 2 that edition 1 loses
--     spiral_lost, spiral_lands        the white spiral of nine right turns
-- Assumes nothing.
use mathlib.Core.Path.{refl}
use mathlib.Core.List.{[], ◌∷◌}
use Rattle.std.specs.Prelude.{Some, None}
use Rattle.flow.specs.Pointer.{of_number}
use Rattle.flow.specs.Neighbour.{ahead_of}
use Rattle.picture.specs.Picture.{Picture, picture}
use Rattle.exit.specs.Trail.{turns_of, occurs, eighth_turn, comes_back}
use Rattle.exit.specs.Slide.{landed, seen_as, seen, look_of, lost, turn, move, land, Ends}

-- red, white, white over black, black, white
abbrev later : Picture
later =
    picture 2 3 1
    (6 ∷ 19 ∷ 19 ∷
    18 ∷ 18 ∷ 19 ∷ [])

-- not the first station comes again: (0, 2) with dp right, by a turn
pub later_back : Ends later comes_back 0 1 (of_number 0) None
unfolding seen_as seen look_of ahead_of occurs comes_back
later_back =
    record {
      trail = _;
      slides =
          move refl refl (turn refl refl (move refl refl (turn refl refl (turn refl refl (move refl refl (turn refl refl
          (lost refl)))))));
    }

-- red, white over black, white
abbrev corner : Picture
corner =
    picture 2 2 1
    (6 ∷ 19 ∷
    18 ∷ 19 ∷ [])

-- the first station comes again
pub first_back : Ends corner comes_back 0 1 (of_number 0) None
unfolding seen_as seen look_of ahead_of occurs comes_back
first_back =
    record {
      trail = _;
      slides =
          turn refl refl (move refl refl (turn refl refl (turn refl refl (move refl refl (turn refl refl (lost refl))))));
    }

-- the smallest picture from whose first codel the editions part by a long slide
abbrev crossing : Picture
crossing =
    picture 4 4 1
    (6 ∷ 19 ∷ 18 ∷ 18 ∷
    18 ∷ 19 ∷ 19 ∷ 6 ∷
    19 ∷ 19 ∷ 19 ∷ 18 ∷
    18 ∷ 18 ∷ 19 ∷ 18 ∷ [])

-- edition 1 makes the eighth turn before it lands
pub crossing_lost : Ends crossing eighth_turn 0 1 (of_number 0) None
unfolding seen_as seen look_of ahead_of turns_of eighth_turn
crossing_lost =
    record {
      trail = _;
      slides =
          turn refl refl (move refl refl (move refl refl (turn refl refl (move refl refl (turn refl refl (turn refl refl
          (move refl refl (move refl refl (turn refl refl (move refl refl (turn refl refl (turn refl refl (move refl refl
          (move refl refl (turn refl refl (lost refl))))))))))))))));
    }

-- edition 2 lands after eight turns; it has stood nine times on seven white codels
pub crossing_lands : Ends crossing comes_back 0 1 (of_number 0) (Some (landed 1 3 (of_number 0)))
unfolding seen_as seen look_of ahead_of occurs comes_back
crossing_lands =
    record {
      trail = _;
      slides =
          turn refl refl (move refl refl (move refl refl (turn refl refl (move refl refl (turn refl refl (turn refl refl
          (move refl refl (move refl refl (turn refl refl (move refl refl (turn refl refl (turn refl refl (move refl refl
          (move refl refl (turn refl refl (land refl refl))))))))))))))));
    }

-- the lecturer's spiral: nine right turns to the red codel in the middle
abbrev spiral : Picture
spiral =
    picture 10 8 1
    (6 ∷ 19 ∷ 19 ∷ 19 ∷ 19 ∷ 19 ∷ 19 ∷ 19 ∷
    18 ∷ 18 ∷ 18 ∷ 18 ∷ 18 ∷ 18 ∷ 18 ∷ 19 ∷
    19 ∷ 19 ∷ 19 ∷ 19 ∷ 19 ∷ 19 ∷ 18 ∷ 19 ∷
    19 ∷ 18 ∷ 18 ∷ 18 ∷ 18 ∷ 19 ∷ 18 ∷ 19 ∷
    19 ∷ 18 ∷ 19 ∷ 19 ∷ 18 ∷ 19 ∷ 18 ∷ 19 ∷
    19 ∷ 18 ∷ 19 ∷ 6 ∷ 18 ∷ 19 ∷ 18 ∷ 19 ∷
    19 ∷ 18 ∷ 19 ∷ 18 ∷ 18 ∷ 19 ∷ 18 ∷ 19 ∷
    19 ∷ 18 ∷ 19 ∷ 19 ∷ 19 ∷ 19 ∷ 18 ∷ 19 ∷
    19 ∷ 18 ∷ 18 ∷ 18 ∷ 18 ∷ 18 ∷ 18 ∷ 19 ∷
    19 ∷ 19 ∷ 19 ∷ 19 ∷ 19 ∷ 19 ∷ 19 ∷ 19 ∷ [])

-- edition 1: the eighth turn
pub spiral_lost : Ends spiral eighth_turn 0 1 (of_number 0) None
unfolding seen_as seen look_of ahead_of turns_of eighth_turn
spiral_lost =
    record {
      trail = _;
      slides =
          move refl refl (move refl refl (move refl refl (move refl refl (move refl refl (move refl refl (turn refl refl
          (move refl refl (move refl refl (move refl refl (move refl refl (move refl refl (move refl refl (move refl refl
          (move refl refl (move refl refl (turn refl refl (move refl refl (move refl refl (move refl refl (move refl refl
          (move refl refl (move refl refl (move refl refl (turn refl refl (move refl refl (move refl refl (move refl refl
          (move refl refl (move refl refl (move refl refl (move refl refl (turn refl refl (move refl refl (move refl refl
          (move refl refl (move refl refl (move refl refl (turn refl refl (move refl refl (move refl refl (move refl refl
          (move refl refl (move refl refl (turn refl refl (move refl refl (move refl refl (move refl refl (turn refl refl
          (move refl refl (move refl refl (move refl refl (turn refl refl
          (lost refl)))))))))))))))))))))))))))))))))))))))))))))))))))));
    }

-- edition 2 reaches it, over 47 codels
pub spiral_lands : Ends spiral comes_back 0 1 (of_number 0) (Some (landed 5 3 (of_number 3)))
unfolding seen_as seen look_of ahead_of occurs comes_back
spiral_lands =
    record {
      trail = _;
      slides =
          move refl refl (move refl refl (move refl refl (move refl refl (move refl refl (move refl refl (turn refl refl
          (move refl refl (move refl refl (move refl refl (move refl refl (move refl refl (move refl refl (move refl refl
          (move refl refl (move refl refl (turn refl refl (move refl refl (move refl refl (move refl refl (move refl refl
          (move refl refl (move refl refl (move refl refl (turn refl refl (move refl refl (move refl refl (move refl refl
          (move refl refl (move refl refl (move refl refl (move refl refl (turn refl refl (move refl refl (move refl refl
          (move refl refl (move refl refl (move refl refl (turn refl refl (move refl refl (move refl refl (move refl refl
          (move refl refl (move refl refl (turn refl refl (move refl refl (move refl refl (move refl refl (turn refl refl
          (move refl refl (move refl refl (move refl refl (turn refl refl (move refl refl (turn refl refl
          (land refl refl)))))))))))))))))))))))))))))))))))))))))))))))))))))));
    }
