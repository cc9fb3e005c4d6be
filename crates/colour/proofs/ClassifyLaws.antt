-- Laws of pixels as triples, and of a call that is not refused. Assumes nothing.
use mathlib.Core.Path.{◌≡◌, ◌∙◌, ap, refl}
use mathlib.Core.List.{List, [], ◌∷◌}
use Prim.Native.Nat.{ℕ, zero, suc, ◌+◌, ◌*◌, ◌<◌, ◌≤◌}
use native.Mathlib.Omega.{arith}
use lib.ListN.{length, get_or, length-map}
use borrow.Author.Tests.{eqb-true, ltb-false, not-false}
use Rattle.std.specs.Prelude.{None}
use Rattle.colour.specs.Palette.{rgb, colour_of, pixels_of}
use Rattle.base.specs.Limits.{wrong_side}
use Rattle.colour.specs.Classify.{answer, refusals, found}
use Rattle.base.proofs.Tests.{neither}
use Rattle.base.proofs.Sides.{side}
use Rattle.base.proofs.Refusals.{passed}
use Rattle.base.specs.Numbers.{numbers}

pub found_at : (p : List ℕ) (i : ℕ) → 3 * i + 2 < length p
    → get_or (found p) i None ≡ colour_of (rgb (get_or p (3 * i) 0) (get_or p (3 * i + 1) 0) (get_or p (3 * i + 2) 0))
unfolding found pixels_of
found_at [] i h = absurd (omega arith)
found_at (r ∷ []) i h = absurd (omega arith)
found_at (r ∷ g ∷ []) i h = absurd (omega arith)
found_at (r ∷ g ∷ b ∷ rest) zero h = refl
found_at (r ∷ g ∷ b ∷ rest) (suc i) h =
    let e₀ : 3 * suc i ≡ suc (suc (suc (3 * i))) = omega arith in
    let e₁ : 3 * suc i + 1 ≡ suc (suc (suc (3 * i + 1))) = omega arith in
    let e₂ : 3 * suc i + 2 ≡ suc (suc (suc (3 * i + 2))) = omega arith in
    rw (e₁, e₂, e₀) (found_at rest i (omega arith))

pub length_pixels : (p : List ℕ) (n : ℕ) → length p ≡ 3 * n → length (pixels_of p) ≡ n
unfolding pixels_of
length_pixels [] n h = omega arith
length_pixels (r ∷ []) n h = absurd (omega arith)
length_pixels (r ∷ g ∷ []) n h = absurd (omega arith)
length_pixels (r ∷ g ∷ b ∷ rest) zero h = absurd (omega arith)
length_pixels (r ∷ g ∷ b ∷ rest) (suc n) h = ap suc (length_pixels rest n (omega arith))

pub length_found : (p : List ℕ) (n : ℕ) → length p ≡ 3 * n → length (found p) ≡ n
unfolding found
length_found p n h = length-map (pixels_of p) colour_of ∙ length_pixels p n h

-- what a call that is not refused may rely on
pub record Accepted (pixels : List ℕ) (height width room : ℕ) : Type 0 where
  pub high : height ≤ 1024
  pub wide : width ≤ 1024
  pub bytes : length pixels ≡ 3 * (height * width)
  pub fits : height * width ≤ room

pub accepted : (p : List ℕ) (h w s room : ℕ) (v : List ℕ) → numbers 0 v ≡ answer p h w s room → Accepted p h w room
unfolding answer refusals
accepted p h w s room v e =
    let a = passed _ 0 _ v _ _ e in
    let b = passed _ 2 _ v _ _ a.1 in
    let d = passed _ 1 _ v _ _ b.1 in
    let f = passed _ 3 _ v _ _ d.1 in
    let sides = neither (wrong_side h) (wrong_side w) a.0 in
    record {
      high = (side h sides.0).1;
      wide = (side w sides.1).1;
      bytes = eqb-true _ _ (not-false _ d.0);
      fits = ltb-false _ _ f.0;
    }
