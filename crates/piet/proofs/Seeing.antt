-- The colours of pixels: one for each pixel, each at most 19. Assumes nothing.
use mathlib.Core.Path.{◌≡◌, refl, ap, ◌∙◌}
use mathlib.Core.Bool.{Bool, true, false, cond}
use mathlib.Core.List.{List, [], ◌∷◌, map}
use Prim.Native.Nat.{ℕ, suc, ◌+◌, ◌*◌, ◌<◌, ◌≤◌}
use native.Mathlib.Omega.{arith}
use borrow.Author.Tests.{le-ltb}
use lib.Dec.{eqb}
use lib.ListN.{length, get_or, length-map}
use Rattle.std.specs.Prelude.{Option, Some, None}
use Rattle.colour.specs.Palette.{Rgb, same, palette, black, white, number_in, colour_of, pixels_of}
use Rattle.colour.specs.Setting.{blackening}
use Rattle.colour.specs.Classify.{found, colour_under, colours_under}
use Rattle.colour.proofs.ClassifyLaws.{length_found}
use Rattle.cfg.specs.Build.{legal_first}

-- a colour that is found is below n
abbrev Below : ℕ → Option ℕ → Type 0
Below n (Some c) = c < n
Below n None = Unit {0}

either : (b : Bool) (n : ℕ) (x y : Option ℕ) → Below n x → Below n y → Below n (cond b x y)
either true n x y h k = h
either false n x y h k = k

number_below : (qs : List Rgb) (i n : ℕ) (p : Rgb) → i + length qs ≤ n → Below n (number_in qs i p)
unfolding number_in
number_below [] i n p h = tt
number_below (q ∷ qs) i n p h = either (same q p) n (Some i) (number_in qs (suc i) p) (omega arith) (number_below qs (suc i) n p (omega arith))

colour_below : (p : Rgb) → Below 20 (colour_of p)
unfolding colour_of
colour_below p = number_below palette 0 20 p (omega arith)

under_small : (s : ℕ) (f : Option ℕ) → Below 20 f → colour_under s f ≤ 19
unfolding colour_under
under_small s (Some c) h = omega arith
under_small s None h = go (eqb s blackening)
  where
    go : (b : Bool) → cond b black white ≤ 19
    go true = omega arith
    go false = omega arith

legal_all : (s : ℕ) (ps : List Rgb) → legal_first (map (colour_under s) (map colour_of ps)) ≡ length (map (colour_under s) (map colour_of ps))
unfolding legal_first
legal_all s [] = refl
legal_all s (p ∷ ps) = rw (le-ltb 19 (colour_under s (colour_of p)) (under_small s (colour_of p) (colour_below p))) (ap suc (legal_all s ps))

pub legal_under : (pixels : List ℕ) (s : ℕ) → length (colours_under pixels s) ≤ legal_first (colours_under pixels s)
unfolding colours_under found
legal_under pixels s = omega (arith, legal_all s (pixels_of pixels))

pub length_under : (pixels : List ℕ) (s n : ℕ) → length pixels ≡ 3 * n → length (colours_under pixels s) ≡ n
unfolding colours_under
length_under pixels s n h = length-map (found pixels) (colour_under s) ∙ length_found pixels n h

pub first_under : (pixels : List ℕ) (s : ℕ) → 2 < length pixels → colour_under s (get_or (found pixels) 0 None) ≡ get_or (colours_under pixels s) 0 0
unfolding colours_under found pixels_of
first_under [] s h = absurd (omega arith)
first_under (r ∷ []) s h = absurd (omega arith)
first_under (r ∷ g ∷ []) s h = absurd (omega arith)
first_under (r ∷ g ∷ b ∷ rest) s h = refl
