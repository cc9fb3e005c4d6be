-- What a look says of the codel ahead: its colour, and that it is in the grid. Assumes nothing.
use mathlib.Core.Path.{◌≡◌, refl, ap, subst}
use mathlib.Core.Bool.{Bool, true, false, cond}
use Prim.Native.Nat.{ℕ}
use borrow.Author.Tests.{eqb-true, eqb-false, ne_eqb}
use lib.Dec.{eqb}
use Rattle.std.specs.Prelude.{Option, Some, None}
use Rattle.colour.specs.Palette.{black, white}
use Rattle.flow.specs.Neighbour.{ahead_of}
use Rattle.flow.proofs.NeighbourLaws.{inside}
use Rattle.picture.specs.Picture.{Picture, Inside, colour_at, rows_of, cols_of}
use Rattle.exit.specs.declared.slide.Sight.{Sight}
use Rattle.exit.specs.declared.slide.Sight.TheVariants.{Shut, White, Coloured}
use Rattle.exit.specs.Slide.{seen_as, seen, look_of}

-- the code's three tests of a colour
pub seen_black : (k r c : ℕ) → k ≡ black → seen_as k r c ≡ Shut
unfolding seen_as
seen_black k r c e = rw e

pub seen_white : (k r c : ℕ) → k ≡ white → seen_as k r c ≡ White r c
unfolding seen_as
seen_white k r c e = rw e

pub seen_coloured : (k r c : ℕ) → (k ≡ black → ⊥) → (k ≡ white → ⊥) → seen_as k r c ≡ Coloured r c
unfolding seen_as
seen_coloured k r c h i = simp (ne_eqb k black h, ne_eqb k white i)

-- what is ahead, and what it is seen as
pub data Sighted (p : Picture) : Option (ℕ × ℕ) → Sight → Type 0 where
  at_edge : Sighted p None Shut
  at_black : {r c : ℕ} → colour_at p r c ≡ black → Sighted p (Some (r, c)) Shut
  at_white : {r c : ℕ} → colour_at p r c ≡ white → Sighted p (Some (r, c)) (White r c)
  at_colour : {r c : ℕ} → (colour_at p r c ≡ black → ⊥) → (colour_at p r c ≡ white → ⊥) → Sighted p (Some (r, c)) (Coloured r c)

sighted : (p : Picture) (n : Option (ℕ × ℕ)) → Sighted p n (seen p n)
unfolding seen seen_as
sighted p None = at_edge
sighted p (Some (r, c)) = by_tests (eqb (colour_at p r c) black) (eqb (colour_at p r c) white) refl refl
  where
    by_tests : (k w : Bool) → eqb (colour_at p r c) black ≡ k → eqb (colour_at p r c) white ≡ w
        → Sighted p (Some (r, c)) (cond k Shut (cond w (White r c) (Coloured r c)))
    by_tests true w ek ew = at_black (eqb-true _ _ ek)
    by_tests false true ek ew = at_white (eqb-true _ _ ew)
    by_tests false false ek ew = at_colour (eqb-false _ _ ek) (eqb-false _ _ ew)

pub look_sighted : (p : Picture) (r c d : ℕ) {x : Sight} → look_of p r c d ≡ x → Sighted p (ahead_of (rows_of p) (cols_of p) r c d) x
unfolding look_of
look_sighted p r c d e = subst (Sighted p (ahead_of (rows_of p) (cols_of p) r c d)) e (sighted p (ahead_of (rows_of p) (cols_of p) r c d))

-- a look from what is ahead
pub look_outside : (p : Picture) (r c d : ℕ) → ahead_of (rows_of p) (cols_of p) r c d ≡ None → look_of p r c d ≡ Shut
unfolding look_of seen
look_outside p r c d e = ap (seen p) e

pub look_codel : (p : Picture) (r c d a b : ℕ) → ahead_of (rows_of p) (cols_of p) r c d ≡ Some (a, b) → look_of p r c d ≡ seen_as (colour_at p a b) a b
unfolding look_of seen
look_codel p r c d a b e = ap (seen p) e

-- a white codel that is seen, and a coloured one, is the codel ahead
white_codel : {p : Picture} {n : Option (ℕ × ℕ)} {a b : ℕ} → Sighted p n (White a b) → n ≡ Some (a, b)
white_codel (at_white h) = refl

coloured_codel : {p : Picture} {n : Option (ℕ × ℕ)} {a b : ℕ} → Sighted p n (Coloured a b) → n ≡ Some (a, b)
coloured_codel (at_colour h i) = refl

neither_colour : {p : Picture} {n : Option (ℕ × ℕ)} {a b : ℕ} → Sighted p n (Coloured a b) → (colour_at p a b ≡ black → ⊥) × (colour_at p a b ≡ white → ⊥)
neither_colour (at_colour h i) = (h, i)

module _ (p : Picture) (r c d : ℕ) {a b : ℕ} where
  pub white_ahead : look_of p r c d ≡ White a b → ahead_of (rows_of p) (cols_of p) r c d ≡ Some (a, b)
  white_ahead e = white_codel (look_sighted p r c d e)

  pub coloured_ahead : look_of p r c d ≡ Coloured a b → ahead_of (rows_of p) (cols_of p) r c d ≡ Some (a, b)
  coloured_ahead e = coloured_codel (look_sighted p r c d e)

  pub coloured_colour : look_of p r c d ≡ Coloured a b → (colour_at p a b ≡ black → ⊥) × (colour_at p a b ≡ white → ⊥)
  coloured_colour e = neither_colour (look_sighted p r c d e)

  -- the codel ahead of one of the grid is one of the grid
  pub ahead_inside : Inside p r c → ahead_of (rows_of p) (cols_of p) r c d ≡ Some (a, b) → Inside p a b
  ahead_inside i e =
      let q = inside (rows_of p) (cols_of p) r c d a b i.row_in i.col_in e in
      record { row_in = q.0; col_in = q.1 }

  pub white_inside : Inside p r c → look_of p r c d ≡ White a b → Inside p a b
  white_inside i e = ahead_inside i (white_ahead e)

  pub coloured_inside : Inside p r c → look_of p r c d ≡ Coloured a b → Inside p a b
  coloured_inside i e = ahead_inside i (coloured_ahead e)
