-- A picture by its pixels' colours, and its codels (rules 2.1 to 2.3). Assumes nothing.
use Rattle.std.specs.Prelude.{◌≡◌, List, ℕ, ◌+◌, ◌-◌, ◌*◌, ◌/◌, ◌%◌, ◌<◌, ◌≤◌, length, get_or}
use Rattle.picture.specs.declared.shape.Shape.{Shape}

pub record Picture : Type 0 where
  pub height : ℕ
  pub width : ℕ
  pub codel : ℕ
  pub colours : List ℕ

abbrev pub picture : ℕ → ℕ → ℕ → List ℕ → Picture
picture h w k xs = record { height = h; width = w; codel = k; colours = xs }

-- n over k, rounded up
abbrev pub ceil : ℕ → ℕ → ℕ
ceil n k = (n + (k - 1)) / k

-- the rows and columns of the grid, and how many codels it has (rule 2.2)
abbrev pub rows_of : Picture → ℕ
rows_of p = ceil p.height p.codel

abbrev pub cols_of : Picture → ℕ
cols_of p = ceil p.width p.codel

abbrev pub codels : Picture → ℕ
codels p = rows_of p * cols_of p

-- codel (r, c) is one of the grid
pub record Inside (p : Picture) (row col : ℕ) : Type 0 where
  pub row_in : row < rows_of p
  pub col_in : col < cols_of p

-- a codel has its top left pixel's colour (rule 2.3)
abbrev pub colour_at : Picture → ℕ → ℕ → ℕ
colour_at p r c = get_or p.colours (r * p.codel * p.width + c * p.codel) 0

-- codels are counted row by row: codel (r, c) has the index r x columns + c
abbrev pub index_of : Picture → ℕ → ℕ → ℕ
index_of p r c = r * cols_of p + c

-- the colour of the codel with an index
abbrev pub codel_colour : Picture → ℕ → ℕ
codel_colour p i = colour_at p (i / cols_of p) (i % cols_of p)

-- what building's refusals 1, 6, 7 and 2 leave: sides and codel within bounds, not too many codels, a colour for each pixel
pub record Sound (p : Picture) : Type 0 where
  pub high : 0 < p.height
  pub not_high : p.height ≤ 1024
  pub wide : 0 < p.width
  pub not_wide : p.width ≤ 1024
  pub some : 0 < p.codel
  pub small : p.codel ≤ 1024
  pub few : codels p ≤ 65536
  pub pixels : length p.colours ≡ p.height * p.width

-- the numbers that the code carries beside the colours
abbrev pub framed : ℕ → ℕ → ℕ → Shape
framed h w k = record { height = h; width = w; codel = k; rows = ceil h k; cols = ceil w k }

abbrev pub shape_of : Picture → Shape
shape_of p = framed p.height p.width p.codel

abbrev pub picture_of : List ℕ → Shape → Picture
picture_of colours s = picture s.height s.width s.codel colours

-- a shape that belongs to the colours: they make a sound picture, and the rows and columns are its own
pub record Frames (colours : List ℕ) (s : Shape) : Type 0 where
  pub sound : Sound (picture_of colours s)
  pub rows_are : s.rows ≡ rows_of (picture_of colours s)
  pub cols_are : s.cols ≡ cols_of (picture_of colours s)
