-- Codels that touch at a corner only are not joined (rule 3.1). Red is 6, white 19. Assumes nothing.
use mathlib.Core.Path.{◌≡◌, refl, subst}
use mathlib.Core.List.{List, [], ◌∷◌}
use Prim.Native.Nat.{ℕ, zero, suc}
use native.Mathlib.Omega.{arith}
use lib.Dec.{lit<}
use lib.ListN.{get_or}
use Rattle.picture.specs.Picture.{picture}
use Rattle.region.specs.Grid.{Grid, grid_of, Toward}
use Rattle.region.specs.Region.{Joined, here, on, IsMap}

-- red, white over white, red
abbrev corner : Grid
corner = grid_of (picture 2 2 1 (6 ∷ 19 ∷ 19 ∷ 6 ∷ []))

-- no step leads from the first codel to one of its colour
no_step : (way j : ℕ) → Toward 2 way 0 j → 6 ≡ corner.colour j → ⊥
unfolding Toward
no_step zero j t e =
    let there : j ≡ 1 = omega (arith, t.0, t.1) in
    let same : ◌≡◌ {A = ℕ} 6 19 = rw there at e in
    omega arith
no_step (suc zero) j t e =
    let there : j ≡ 2 = omega (arith, t.0, t.1) in
    let same : ◌≡◌ {A = ℕ} 6 19 = rw there at e in
    omega arith
no_step (suc (suc zero)) j t e = omega (arith, t.1)
no_step (suc (suc (suc zero))) j t e = omega (arith, t.0)
no_step (suc (suc (suc (suc way)))) j t e = t

stays : {j : ℕ} → Joined corner 0 j → j ≡ 0
stays here = refl
stays (on {k = k} q a e) =
    absurd (no_step a.way k (subst (λ (x : ℕ). Toward 2 a.way x k) (stays q) a.toward) (subst (λ (x : ℕ). corner.colour x ≡ corner.colour k) (stays q) e))

pub corner_apart : Joined corner 0 3 → ⊥
corner_apart q = let e : ◌≡◌ {A = ℕ} 3 0 = stays q in omega arith

-- so they get two regions
pub corner_regions : {m : List ℕ} {n : ℕ} → IsMap corner m n → get_or m 0 0 ≡ get_or m 3 0 → ⊥
corner_regions M e = corner_apart (M.apart 0 3 (lit< tt) (lit< tt) e)
