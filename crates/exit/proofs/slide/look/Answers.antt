-- `exit::slide::look` meets its contract: the codel ahead, then its colour. Assumes nothing.
use mathlib.Core.Path.{◌≡◌, sym, ap, ◌∙◌}
use Prim.Native.Nat.{ℕ}
use Rattle.std.specs.Prelude.{Some}
use Rattle.flow.specs.Neighbour.{ahead_of}
use Rattle.picture.specs.declared.grid.CodelGrid.{CodelGrid}
use Rattle.picture.specs.Codels.{picture_in}
use Rattle.picture.specs.Picture.{rows_of, cols_of, colour_at}
use Rattle.exit.specs.Slide.{look_of, seen_as}
use Rattle.exit.proofs.SlideLaws.{seen_black, seen_white, seen_coloured, look_outside, look_codel, ahead_inside}
use Rattle.exit.proofs.slide.look.Goals as goal

-- the code's rows and columns are the picture's
framed : (g : CodelGrid) (r c d : ℕ)
    → ahead_of (rows_of (picture_in g)) (cols_of (picture_in g)) r c d ≡ ahead_of g.shape.rows g.shape.cols r c d
framed g r c d = rw (g.framed.rows_are, g.framed.cols_are)

-- a codel ahead whose colour was read
read : (g : CodelGrid) (r c d a b k : ℕ) → ahead_of g.shape.rows g.shape.cols r c d ≡ Some (a, b) → k ≡ colour_at (picture_in g) a b
    → look_of (picture_in g) r c d ≡ seen_as k a b
read g r c d a b k e f = look_codel _ _ _ _ _ _ (framed g r c d ∙ e) ∙ ap (λ (n : ℕ). seen_as n a b) (sym f)

pub returns-in_default : goal.returns-in_default
returns-in_default c = sym (look_outside _ _ _ _ (framed c.args.grid _ _ _ ∙ sym c.ahead.ensures ∙ c.in_default.is))

pub colour_at-colour-requires : goal.colour_at-colour-requires
colour_at-colour-requires c = ahead_inside _ _ _ _ c.requires (framed c.args.grid _ _ _ ∙ sym c.ahead.ensures ∙ c.in-Some.is)

pub returns-then-colour-eq-BLACK : goal.returns-then-colour-eq-BLACK
returns-then-colour-eq-BLACK c =
    sym (read c.args.grid _ _ _ _ _ _ (sym c.ahead.ensures ∙ c.in-Some.is) c.colour_at-colour.ensures ∙ seen_black _ _ _ c.if-colour-eq-BLACK.true)

pub returns-then-colour-eq-WHITE : goal.returns-then-colour-eq-WHITE
returns-then-colour-eq-WHITE c =
    sym (read c.args.grid _ _ _ _ _ _ (sym c.ahead.ensures ∙ c.in-Some.is) c.colour_at-colour.ensures ∙ seen_white _ _ _ c.if-colour-eq-WHITE.true)

pub returns : goal.returns
returns c =
    sym
    (read c.args.grid _ _ _ _ _ _ (sym c.ahead.ensures ∙ c.in-Some.is) c.colour_at-colour.ensures
    ∙ seen_coloured _ _ _ c.if-colour-eq-BLACK.false c.if-colour-eq-WHITE.false)
