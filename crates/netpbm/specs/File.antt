-- A Netpbm P6 file (rules 15.1 to 15.3, 15.5): which bytes are one, and the shortest of them. Assumes nothing.
use Rattle.std.specs.Prelude.{◌≡◌, Bool, true, not, ◌&&◌, ◌||◌, List, [], ◌∷◌, ◌++◌, ℕ, ◌*◌, ◌<◌, eqb, length}
use Rattle.base.specs.Text.{ascii, decimal, numeral, value_after}

-- the white space of a header: blank, tab, return and newline, and no other byte (rule 15.2)
unfoldable pub header_white : ℕ → Bool
header_white b = eqb b 0x20 || (eqb b 0x09 || (eqb b 0x0D || eqb b 0x0A))

-- a comment's text: no byte of it is a newline
unfoldable pub one_line : List ℕ → Bool
one_line [] = true
one_line (b ∷ l) = not (eqb b 0x0A) && one_line l

-- bytes of white space and comments, none or more of them; a comment goes from `#`, 0x23, through a newline
pub data Spacing : List ℕ → Type 0 where
  none : {l : List ℕ} → l ≡ [] → Spacing l
  white : {l : List ℕ} (b : ℕ) (after : List ℕ) → header_white b ≡ true → Spacing after → l ≡ b ∷ after → Spacing l
  comment : {l : List ℕ} (text after : List ℕ) → one_line text ≡ true → Spacing after → l ≡ 0x23 ∷ (text ++ 0x0A ∷ after) → Spacing l

-- what stands before a number: one or more of them
pub record Gap (l : List ℕ) : Type 0 where
  pub some : 0 < length l
  pub spacing : Spacing l

-- l is a gap, then a number, which is digits of any count with the value n (rule 15.3), and then what stands after
pub record Field (l : List ℕ) (n : ℕ) (after : List ℕ) : Type 0 where
  pub gap : List ℕ
  pub text : List ℕ
  pub apart : Gap gap
  pub number : numeral text ≡ true
  pub value : n ≡ value_after 0 text
  pub is : l ≡ gap ++ (text ++ after)

-- `P6`, the width, the height, the maximum, one byte of white space, and then the pixel bytes (rule 15.1)
pub record IsHeader (file : List ℕ) (height width maximum : ℕ) (pixels : List ℕ) : Type 0 where
  pub after-magic : List ℕ
  pub after-width : List ℕ
  pub after-height : List ℕ
  pub last : ℕ
  pub magic : file ≡ ascii "P6" ++ after-magic
  pub wide : Field after-magic width after-width
  pub high : Field after-width height after-height
  pub most : Field after-height maximum (last ∷ pixels)
  pub white : header_white last ≡ true

-- a file is a picture of this size with these pixel bytes, three a pixel
pub record IsP6 (file : List ℕ) (height width : ℕ) (pixels : List ℕ) : Type 0 where
  pub header : IsHeader file height width 255 pixels
  pub bytes : length pixels ≡ 3 * (height * width)

-- one newline after each field, and no leading zeros (rule 15.5)
unfoldable pub line : List ℕ → List ℕ
line text = text ++ (0x0A ∷ [])

unfoldable pub shortest : ℕ → ℕ → List ℕ → List ℕ
shortest height width pixels =
    line (ascii "P6") ++ line (decimal width) ++ line (decimal height) ++ line (ascii "255") ++ pixels
