-- What the definitions say of the whole palette, of an unknown pixel, and of labels. Assumes nothing.
use mathlib.Core.Path.{◌≡◌, refl}
use mathlib.Core.List.{List, [], ◌∷◌, map}
use Prim.Native.Nat.{ℕ}
use Rattle.std.specs.Prelude.{Some, None}
use Rattle.colour.specs.Palette.{rgb, palette, colour_of, number_in, pixels_of}
use Rattle.base.specs.Numbers.{numbers, first}
use Rattle.colour.specs.Classify.{found, known_first, colour_under, colours_under, unknown_pixel, refusals, answer}
use Rattle.base.specs.Text.{ascii, decimal, digits}
use Rattle.colour.specs.Label.{label_of, name, place}

-- no two colours have the same bytes: each is found under its own number
pub numbered :
    map colour_of palette
    ≡ Some 0 ∷ Some 1 ∷ Some 2 ∷ Some 3 ∷ Some 4 ∷ Some 5 ∷ Some 6 ∷ Some 7 ∷ Some 8 ∷ Some 9 ∷ Some 10 ∷ Some 11 ∷ Some 12
    ∷ Some 13 ∷ Some 14 ∷ Some 15 ∷ Some 16 ∷ Some 17 ∷ Some 18 ∷ Some 19 ∷ []
unfolding colour_of number_in
numbered = refl

pub unknown : colour_of (rgb 0xC0 0xC0 0xC0) ≡ None
unfolding colour_of number_in
unknown = refl

-- red, and a pixel that is unknown
abbrev p : List ℕ
p = 0xFF ∷ 0 ∷ 0 ∷ 1 ∷ 2 ∷ 3 ∷ []

-- by the setting, 1 x 2 (rule 1.2): 1 refuses the pixel at (0,1), 0 and 2 make it white, 3 black, and 4 is none
pub by_setting :
    (answer p 1 2 0 2 ≡ numbers 0 (0 ∷ 0 ∷ [])) × (colours_under p 0 ≡ 6 ∷ 19 ∷ [])
    × ((answer p 1 2 1 2 ≡ numbers 5 (0 ∷ 1 ∷ []))
    × ((answer p 1 2 2 2 ≡ numbers 0 (0 ∷ 0 ∷ [])) × (colours_under p 2 ≡ 6 ∷ 19 ∷ [])
    × ((answer p 1 2 3 2 ≡ numbers 0 (0 ∷ 0 ∷ [])) × (colours_under p 3 ≡ 6 ∷ 18 ∷ [])
    × (answer p 1 2 4 2 ≡ numbers 3 (0 ∷ 0 ∷ [])))))
unfolding answer refusals unknown_pixel known_first first colours_under found pixels_of colour_of number_in colour_under
by_setting = (refl, refl, (refl, (refl, refl, (refl, refl, refl))))

pub labels :
    (label_of 6 0 1 ≡ ascii "RegRed_0_1") × ((label_of 17 1023 1010 ≡ ascii "LightMagenta_1023_1010") × (label_of 18 0 0 ≡ ascii "Entry"))
unfolding label_of name place decimal digits
labels = (refl, (refl, refl))
