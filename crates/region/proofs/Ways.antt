-- The codels one step from a codel, in numbers.
--     found, outside    what makes a `Neighbour`
--     right .. up       the codel of each way, and where there is none
-- Assumes nothing.
use mathlib.Core.Path.{◌≡◌, sym, ap, ◌∙◌}
use Prim.Native.Nat.{ℕ, zero, suc, ◌+◌, ◌-◌, ◌*◌, ◌/◌, ◌%◌, ◌≤◌, ◌<◌}
use native.Mathlib.Numerals.{add-one-le}
use native.Mathlib.Nat.{div-lt_iff_lt-mul, mul-le-mul_right, add-mul, div-add-mod', mod-lt, add-div_right, add-mod_right, div-eq_of_lt, le_refl, le_of_lt, mul-zero}
use native.Mathlib.Omega.{arith}
use lib.Arith.{digits_div, digits_mod}
use Rattle.region.specs.Grid.{Toward, Neighbour}

-- a codel is where its row and its column are
same_place : (c j i : ℕ) → j / c ≡ i / c → j % c ≡ i % c → j ≡ i
same_place c j i p q =
    sym (div-add-mod' j c) ∙ ap (λ (x : ℕ). x * c + j % c) p ∙ ap (λ (x : ℕ). i / c * c + x) q ∙ div-add-mod' i c

-- one codel stands each way
toward_one : (c d i : ℕ) {j l : ℕ} → Toward c d i j → Toward c d i l → j ≡ l
unfolding Toward
toward_one c zero i {j} {l} a b = same_place c j l (a.0 ∙ sym b.0) (a.1 ∙ sym b.1)
toward_one c (suc zero) i {j} {l} a b = same_place c j l (a.0 ∙ sym b.0) (a.1 ∙ sym b.1)
toward_one c (suc (suc zero)) i {j} {l} a b = same_place c j l (a.0 ∙ sym b.0) (omega arith)
toward_one c (suc (suc (suc zero))) i {j} {l} a b = same_place c j l (omega arith) (a.1 ∙ sym b.1)
toward_one c (suc (suc (suc (suc d)))) i a b = absurd a

found : {n c d i r : ℕ} → r < n * c → Toward c d i r → Neighbour n c d i r
found {c = c} {d = d} {i = i} h t = record { most = le_of_lt h; is = λ _. t; only = λ j _ u. toward_one c d i u t }

outside : {n c d i : ℕ} → ((j : ℕ) → j < n * c → Toward c d i j → ⊥) → Neighbour n c d i (n * c)
outside {n} {c} none = record { most = le_refl (n * c); is = λ h. absurd (omega arith); only = λ j h t. absurd (none j h t) }

-- a grid with a codel has a column
pub columns : (n c i : ℕ) → i < n * c → 0 < c
columns n zero i h = absurd (omega (arith, mul-zero n))
columns n (suc c) i h = omega arith

-- a codel that is not the last of its row has one to the right
right_inside : (n c i : ℕ) → i < n * c → i % c + 1 < c → i + 1 < n * c
right_inside n c i h l =
    let row : i / c < n = (div-lt_iff_lt-mul (columns n c i h)).1 h in
    let more : (i / c + 1) * c ≤ n * c = mul-le-mul_right c (add-one-le row) in
    omega (arith, div-add-mod' i c, add-mul (i / c) 1 c)

module _ {n c i : ℕ} (h : i < n * c) where
  pub right : i % c + 1 < c → Neighbour n c 0 i (i + 1)
  unfolding Toward
  right l =
      let e : i + 1 ≡ i / c * c + (i % c + 1) = omega (arith, div-add-mod' i c) in
      found (right_inside n c i h l) (ap (λ (x : ℕ). x / c) e ∙ digits_div (i / c) l, ap (λ (x : ℕ). x % c) e ∙ digits_mod (i / c) l)

  pub right_none : c ≤ i % c + 1 → Neighbour n c 0 i (n * c)
  unfolding Toward
  right_none l = outside (λ j _ t. omega (arith, mod-lt j (columns n c i h), t.1))

  pub down : i + c < n * c → Neighbour n c 1 i (i + c)
  unfolding Toward
  down l = found l (add-div_right i (columns n c i h), add-mod_right i c)

  pub down_none : n * c ≤ i + c → Neighbour n c 1 i (n * c)
  unfolding Toward
  down_none l =
      outside (λ j s t. omega (arith, toward_one c 1 i {l = i + c} t (add-div_right i (columns n c i h), add-mod_right i c)))

  pub left : 0 < i % c → Neighbour n c 2 i (i - 1)
  unfolding Toward
  left l =
      let small : i % c - 1 < c = omega (arith, mod-lt i (columns n c i h)) in
      let e : i - 1 ≡ i / c * c + (i % c - 1) = omega (arith, div-add-mod' i c) in
      let m : (i - 1) % c ≡ i % c - 1 = ap (λ (x : ℕ). x % c) e ∙ digits_mod (i / c) small in
      found (omega arith) (ap (λ (x : ℕ). x / c) e ∙ digits_div (i / c) small, omega arith)

  pub left_none : i % c ≤ 0 → Neighbour n c 2 i (n * c)
  unfolding Toward
  left_none l = outside (λ j _ t. omega (arith, t.1))

  pub up : c ≤ i → Neighbour n c 3 i (i - c)
  unfolding Toward
  up l =
      let pos : 0 < c = columns n c i h in
      let e : i - c + c ≡ i = omega arith in
      let d : i / c ≡ (i - c) / c + 1 = sym (ap (λ (x : ℕ). x / c) e) ∙ add-div_right (i - c) pos in
      let m : i % c ≡ (i - c) % c = sym (ap (λ (x : ℕ). x % c) e) ∙ add-mod_right (i - c) c in
      found (omega arith) (sym d, sym m)

  pub up_none : i < c → Neighbour n c 3 i (n * c)
  unfolding Toward
  up_none l = outside (λ j _ t. omega (arith, t.0, div-eq_of_lt l))
