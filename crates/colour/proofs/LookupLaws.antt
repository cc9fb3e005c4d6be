-- Laws of the palette: that no two colours are alike, and that the likely row settles every pixel. Assumes nothing.
use mathlib.Core.Path.{◌≡◌, ◌∙◌, sym, ap, refl, subst}
use mathlib.Core.Bool.{Bool, true, false, ◌&&◌}
use mathlib.Core.List.{List, [], ◌∷◌}
use Prim.Native.Nat.{ℕ, suc, ◌%◌, ◌<◌}
use native.Mathlib.Nat.{mod-lt}
use native.Mathlib.Omega.{arith}
use lib.ListN.{length, get_or, get_or-map}
use lib.Dec.{eqb, ltb, T, eqb→eq, ltb→lt}
use Rattle.std.specs.Prelude.{Option, Some, None}
use Rattle.base.proofs.Table.{all_at}
use Rattle.colour.specs.Palette.{Rgb, rgb, same, palette, number_in, colour_of}
use Rattle.colour.specs.Lookup.{joined_of, palette_rows, divisor, likely_rows}

both : (a b : Bool) → T (a && b) → T a × T b
both true b t = (tt, t)
both false b t = absurd t

-- three bytes that pass the test are one colour
pub same_bytes : (p q : Rgb) → T (same p q) → p ≡ q
same_bytes (rgb r g b) (rgb r' g' b') t =
    let x = both (eqb r r' && eqb g g') (eqb b b') t in
    let y = both (eqb r r') (eqb g g') x.0 in
    λ i. rgb (eqb→eq r r' y.0 i) (eqb→eq g g' y.1 i) (eqb→eq b b' x.1 i)

abbrev row_of : ℕ → Rgb
row_of i = get_or palette i (rgb 0 0 0)

-- no two colours have one remainder: each row is the likely row of its own bytes
own_row : (i : ℕ) → i < 20 → get_or likely_rows (joined_of (row_of i) % divisor) 0 ≡ i
own_row i h = eqb→eq _ _ (all_at 20 (λ k. eqb (get_or likely_rows (joined_of (row_of k) % divisor) 0) k) tt i h)

-- what the code finds is a row
pub row_small : (n : ℕ) → get_or likely_rows (n % divisor) 0 < 20
row_small n = ltb→lt _ _ (all_at divisor (λ k. ltb (get_or likely_rows k 0) 20) tt (n % divisor) (mod-lt n (omega arith)))

abbrev Small : Rgb → Type 0
Small (rgb r g b) = (r < 256) × ((g < 256) × (b < 256))

abbrev smallb : Rgb → Bool
smallb (rgb r g b) = ltb r 256 && ltb g 256 && ltb b 256

small : (p : Rgb) → T (smallb p) → Small p
small (rgb r g b) t =
    let x = both (ltb r 256 && ltb g 256) (ltb b 256) t in
    let y = both (ltb r 256) (ltb g 256) x.0 in
    (ltb→lt _ _ y.0, (ltb→lt _ _ y.1, ltb→lt _ _ x.1))

-- bytes with one number are the same
joined_only : (p q : Rgb) → Small p → Small q → joined_of p ≡ joined_of q → p ≡ q
joined_only (rgb r g b) (rgb r' g' b') h k e =
    let x : r ≡ r' = omega arith in
    let y : g ≡ g' = omega arith in
    let z : b ≡ b' = omega arith in
    λ i. rgb (x i) (y i) (z i)

is_known : ℕ → Option ℕ → Bool
is_known i (Some c) = eqb c i
is_known i None = false

known : (i : ℕ) (f : Option ℕ) → T (is_known i f) → f ≡ Some i
unfolding is_known
known i (Some c) h = ap Some (eqb→eq c i h)
known i None h = absurd h

-- no two rows are alike, so that three bytes that are a row have that row's number
own_number : (i : ℕ) → i < 20 → colour_of (row_of i) ≡ Some i
unfolding colour_of number_in is_known
own_number i h = known i _ (all_at 20 (λ k. is_known k (colour_of (row_of k))) tt i h)

-- three bytes that are in no row
unlisted : (qs : List Rgb) (n : ℕ) (p : Rgb) → ((i : ℕ) → i < length qs → same (get_or qs i (rgb 0 0 0)) p ≡ false) → number_in qs n p ≡ None
unfolding number_in
unlisted [] n p h = refl
unlisted (q ∷ qs) n p h = rw (h 0 (omega arith)) (unlisted qs (suc n) p (λ i k. h (suc i) (omega arith)))

at_row : (i : ℕ) → get_or palette_rows i 0 ≡ joined_of (row_of i)
at_row i = get_or-map joined_of palette i (rgb 0 0 0)

-- one comparison settles every pixel: three bytes that are their likely row have its number, and all others are unknown
module _ (p : Rgb) (bytes : Small p) (n : ℕ) (joins : n ≡ joined_of p) where
  pub likely_known : get_or palette_rows (get_or likely_rows (n % divisor) 0) 0 ≡ n → colour_of p ≡ Some (get_or likely_rows (n % divisor) 0)
  likely_known e =
      let i = get_or likely_rows (n % divisor) 0 in
      let h = row_small n in
      let s = small (row_of i) (all_at 20 (λ k. smallb (row_of k)) tt i h) in
      ap colour_of (sym (joined_only (row_of i) p s bytes (sym (at_row i) ∙ e ∙ joins))) ∙ own_number i h

  pub likely_unknown : (get_or palette_rows (get_or likely_rows (n % divisor) 0) 0 ≡ n → ⊥) → colour_of p ≡ None
  unfolding colour_of
  likely_unknown d = unlisted palette 0 p (λ i h. differs i h (same (row_of i) p) refl)
    where
      differs : (i : ℕ) → i < 20 → (b : Bool) → same (row_of i) p ≡ b → same (row_of i) p ≡ false
      differs i h false e = e
      differs i h true e =
          let q : row_of i ≡ p = same_bytes _ p (subst T (sym e) tt) in
          let j : n ≡ joined_of (row_of i) = joins ∙ ap joined_of (sym q) in
          let k : get_or likely_rows (n % divisor) 0 ≡ i = ap (λ (m : ℕ). get_or likely_rows (m % divisor) 0) j ∙ own_row i h in
          absurd (d (ap (λ (m : ℕ). get_or palette_rows m 0) k ∙ at_row i ∙ sym j))
