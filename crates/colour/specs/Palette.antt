-- The twenty colours and their three bytes (`convert.rs`, the page's table), by number (rules 1.1, 14.1). Assumes nothing.
use Rattle.std.specs.Prelude.{Bool, ◌&&◌, cond, List, [], ◌∷◌, ℕ, suc, eqb, Option, Some, None}

pub data Rgb : Type 0 where
  rgb : ℕ → ℕ → ℕ → Rgb

abbrev pub same : Rgb → Rgb → Bool
same (rgb r g b) (rgb r' g' b') = eqb r r' && eqb g g' && eqb b b'

-- by number: dark, regular, light red, yellow, green, cyan, blue, magenta; black; white
abbrev pub palette : List Rgb
palette =
    rgb 0xC0 0x00 0x00 ∷ rgb 0xC0 0xC0 0x00 ∷ rgb 0x00 0xC0 0x00 ∷ rgb 0x00 0xC0 0xC0 ∷ rgb 0x00 0x00 0xC0 ∷ rgb 0xC0 0x00 0xC0
    ∷ rgb 0xFF 0x00 0x00 ∷ rgb 0xFF 0xFF 0x00 ∷ rgb 0x00 0xFF 0x00 ∷ rgb 0x00 0xFF 0xFF ∷ rgb 0x00 0x00 0xFF ∷ rgb 0xFF 0x00 0xFF
    ∷ rgb 0xFF 0xC0 0xC0 ∷ rgb 0xFF 0xFF 0xC0 ∷ rgb 0xC0 0xFF 0xC0 ∷ rgb 0xC0 0xFF 0xFF ∷ rgb 0xC0 0xC0 0xFF ∷ rgb 0xFF 0xC0 0xFF
    ∷ rgb 0x00 0x00 0x00
    ∷ rgb 0xFF 0xFF 0xFF
    ∷ []

-- in neither cycle of colours
abbrev pub black : ℕ
black = 18

abbrev pub white : ℕ
white = 19

-- the place of p in a list of colours whose first has the number i
unfoldable pub number_in : List Rgb → ℕ → Rgb → Option ℕ
number_in [] i p = None
number_in (q ∷ qs) i p = cond (same q p) (Some i) (number_in qs (suc i) p)

unfoldable pub colour_of : Rgb → Option ℕ
colour_of p = number_in palette 0 p

-- the pixels of a list of bytes, three bytes a pixel
unfoldable pub pixels_of : List ℕ → List Rgb
pixels_of [] = []
pixels_of (r ∷ []) = []
pixels_of (r ∷ g ∷ []) = []
pixels_of (r ∷ g ∷ b ∷ rest) = rgb r g b ∷ pixels_of rest
