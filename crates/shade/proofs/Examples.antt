-- The text of counts, by computation. Assumes nothing.
use mathlib.Core.Path.{◌≡◌, refl}
use mathlib.Core.List.{[], ◌∷◌, ◌++◌}
use Rattle.base.specs.Counting.{count}
use Rattle.base.specs.Text.{ascii, digits, decimal}
use Rattle.picture.specs.Picture.{picture}
use Rattle.report.specs.Text.{newline}
use Rattle.shade.specs.Shade.{counts_text}

-- the worked job (rule 13.8): light red and red are entered twice each
pub worked : counts_text (picture 1 2 1 (12 ∷ 6 ∷ [])) (0 ∷ 1 ∷ []) (0 ∷ 1 ∷ 0 ∷ 1 ∷ []) 2 ≡ ascii "2 2" ++ newline
unfolding counts_text count digits decimal
worked = refl

-- each codel has its block's count, and a row of codels its line: the first block has two codels in the first row and one in the
-- second, the picture is 6 x 4 pixels, and a codel 2 x 2
pub rows : counts_text (picture 4 6 2 []) (0 ∷ 0 ∷ 1 ∷ 0 ∷ 2 ∷ 2 ∷ []) (0 ∷ 2 ∷ 0 ∷ []) 6 ≡ ascii "2 2 0" ++ newline ++ ascii "2 1 1" ++ newline
unfolding counts_text count digits decimal
rows = refl
