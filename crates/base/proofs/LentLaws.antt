-- Laws of a lent list whose front is written from left to right. Assumes nothing.
use mathlib.Core.Path.{◌≡◌, ◌∙◌, sym, refl}
use mathlib.Core.List.{List, [], ◌∷◌, ◌++◌, map}
use Prim.Native.Nat.{ℕ, zero, suc, ◌+◌, ◌<◌, ◌≤◌}
use native.Mathlib.Nat.{le_of_suc-le-suc, not-suc-le-zero}
use native.Mathlib.Numerals.{add-one}
use native.Mathlib.Omega.{arith}
use lib.ListN.{length, get_or, take, drop, set}
use lib.Seq.{drop-cons, take-suc, set_at, append_snoc, length-take-le, take_all}
use Rattle.base.specs.Lent.{lent}

pub map_at {ℓ ℓ'} : {A : Type ℓ} {B : Type ℓ'} (f : A → B) (l : List A) (i : ℕ) (d : A) (e : B) → i < length l
    → get_or (map f l) i e ≡ f (get_or l i d)
map_at f [] i d e h = absurd (not-suc-le-zero h)
map_at f (x ∷ xs) zero d e h = refl
map_at f (x ∷ xs) (suc i) d e h = map_at f xs i d e (le_of_suc-le-suc h)

module _ {A : Type 0} (w l : List A) (i : ℕ) (z : A) where
  -- one element more of w is written over l
  pub write_turn : i < length w → length w ≤ length l → (a : A) → a ≡ get_or w i z
      → set (take i w ++ drop i l) i a ≡ take (i + 1) w ++ drop (i + 1) l
  write_turn h k a e =
      let m : i < length l = omega arith in
      let n : i ≤ length w = omega arith in
      rw (add-one, drop-cons l i z, take-suc w i z, e)
      (set_at (take i w) (get_or l i z) (drop (suc i) l) (get_or w i z) i (length-take-le i w n)
      ∙ sym (append_snoc (take i w) (get_or w i z) (drop (suc i) l)))

module _ {A : Type 0} (w l : List A) (i : ℕ) where
  pub all_written : i ≡ length w → take i w ++ drop i l ≡ lent w l
  unfolding lent
  all_written e = rw (e, take_all (length w) w (omega arith))
