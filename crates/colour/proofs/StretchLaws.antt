-- Laws of pixels that are all alike. Assumes nothing.
use mathlib.Core.Path.{◌≡◌, ◌∙◌, sym, ap}
use mathlib.Core.List.{List, ◌++◌, map}
use Prim.Native.Nat.{ℕ, zero, suc, ◌+◌, ◌*◌, ◌-◌, ◌<◌, ◌≤◌}
use native.Mathlib.Nat.{add-zero}
use native.Mathlib.Omega.{arith}
use lib.ListN.{length, get_or, take, drop, set, length-append, length-drop, length-map, get_or-append}
use lib.Seq.{length-take-le, get_or-take}
use Rattle.std.specs.Prelude.{is_some, None}
use Rattle.colour.specs.Classify.{found, known_first, colour_under}
use Rattle.colour.specs.Stretch.{Repeats}
use Rattle.base.specs.Lent.{filled}
use Rattle.base.proofs.LentLaws.{map_at, write_turn}
use Rattle.base.proofs.Over.{filled_none, filled_turn}
use Rattle.colour.proofs.ClassifyLaws.{found_at, length_found}
use Rattle.colour.proofs.FirstUnknown.{known_before, goes_on}

-- one value written over the cells of l in which w has it
written_through : (w l : List ℕ) (i v m : ℕ) → i + m ≤ length w → length w ≤ length l → ((k : ℕ) → k < m → v ≡ get_or w (i + k) 0)
    → filled i (i + m) v (take i w ++ drop i l) ≡ take (i + m) w ++ drop (i + m) l
written_through w l i v zero h k e = rw (add-zero i) (sym (filled_none (take i w ++ drop i l) i v))
written_through w l i v (suc m) h k e =
    let d = take i w ++ drop i l in
    let n : length d ≡ length l =
    length-append (take i w) (drop i l) ∙ omega (arith, length-take-le i w (omega arith), length-drop i l) in
    let q : i + suc m ≡ i + m + 1 = omega arith in
    rw q
    (sym (filled_turn d i (i + m) v (omega arith) (omega arith))
    ∙ ap (λ (t : List ℕ). set t (i + m) v) (written_through w l i v m (omega arith) k (λ j s. e j (omega arith)))
    ∙ write_turn w l (i + m) 0 (omega arith) k v (e m (omega arith)))

module _ (p : List ℕ) (from to : ℕ) (r : Repeats p from to) (some : from < to) (inside : 3 * to ≤ length p) where
  pub not_first : 1 ≤ from
  not_first = let h = (r (3 * from) (omega arith) (omega arith)).0 in omega arith

  -- a pixel with the bytes of the one before it has its colour
  same_colour : (i : ℕ) → from ≤ i → i < to → get_or (found p) i None ≡ get_or (found p) (i - 1) None
  same_colour i h l =
      let a = r (3 * i) (omega arith) (omega arith) in
      let b = r (3 * i + 1) (omega arith) (omega arith) in
      let c = r (3 * i + 2) (omega arith) (omega arith) in
      let e₀ : 3 * i - 3 ≡ 3 * (i - 1) = omega arith in
      let e₁ : 3 * i + 1 - 3 ≡ 3 * (i - 1) + 1 = omega arith in
      let e₂ : 3 * i + 2 - 3 ≡ 3 * (i - 1) + 2 = omega arith in
      found_at p i (omega arith) ∙ rw (a.1, b.1, c.1, e₀, e₁, e₂) (sym (found_at p (i - 1) (omega arith)))

  -- and so all of them have the colour of the pixel before the first
  one_colour : (m : ℕ) → from + m < to → get_or (found p) (from + m) None ≡ get_or (found p) (from - 1) None
  one_colour zero l = rw (add-zero from) (same_colour from (omega arith) (omega arith))
  one_colour (suc m) l =
      let e : from + suc m - 1 ≡ from + m = omega arith in
      same_colour (from + suc m) (omega arith) l ∙ ap (λ (i : ℕ). get_or (found p) i None) e ∙ one_colour m (omega arith)

  -- they are known where that one is
  pub known_through : from ≤ known_first (found p) → to ≤ known_first (found p)
  known_through h = let e : from + (to - from) ≡ to = omega arith in rw e at (go (to - from) (omega arith))
    where
      go : (m : ℕ) → from + m ≤ to → from + m ≤ known_first (found p)
      go zero l = omega arith
      go (suc m) l =
          let k = known_before (found p) (from - 1) (omega (arith, not_first)) in
          let s = goes_on (found p) (from + m) (ap is_some (one_colour m (omega arith) ∙ k.1)) (go m (omega arith)) in
          omega arith

  -- and its number, which was written before theirs, is theirs
  pub painted_through : (s n : ℕ) (l d : List ℕ) → length p ≡ 3 * n → to ≤ n → n ≤ length l
      → let w = map (colour_under s) (found p) in d ≡ take from w ++ drop from l
      → filled from to (get_or d (from - 1) 0) d ≡ take to w ++ drop to l
  painted_through s n l d q h k e =
      let f = colour_under s in
      let fs = found p in
      let w = map f fs in
      let a : length fs ≡ n = length_found p n q in
      let b : length w ≡ length fs = length-map fs f in
      let c : length (take from w) ≡ from = length-take-le from w (omega arith) in
      let one = not_first in
      let v : get_or d (from - 1) 0 ≡ get_or w (from - 1) 0 =
      ap (λ (t : List ℕ). get_or t (from - 1) 0) e
      ∙ get_or-append (take from w) (drop from l) 0 (from - 1) (omega arith)
      ∙ get_or-take from w (from - 1) 0 (omega arith) in
      let t : from + (to - from) ≡ to = omega arith in
      rw (v, e)
      (rw t at (written_through w l from (get_or w (from - 1) 0) (to - from) (omega arith) (omega arith) (λ m u.
      map_at f fs (from - 1) None 0 (omega arith)
      ∙ ap f (sym (one_colour m (omega arith)))
      ∙ sym (map_at f fs (from + m) None 0 (omega arith)))))
