-- The machine's signed 64-bit numbers, read as integers: a test of sign, and what the bits are on each side of it.
-- A signed local holds bits, so a need speaks of `to_z w64 (of_z w64 x)`, which is x for every x that fits (`to_z-of_z`).
use Rattle.std.proofs.Common.{◌≡◌, ℕ, zero, suc, ◌-◌, ◌^◌, ◌<◌, Bool, true, false, cond, T, ltb, ℤ, pos, negsuc, nat_abs, sym, refl, ap, ◌∙◌, arith, to_z-of_z, w64, Fits, SFits, to_z, of_z, ltb-true}
use lib.Dec.{eqb-suc-zero}
use lib.Signed.{mag, lt_z, non_neg}
use mir.Val.{sel}
use mir.Facts.{to_z_pos}
use Rattle.word.specs.Word.{signed64, is_zero}

-- x is below 0, as a test `x < 0` of the code says it
abbrev pub Below : ℤ → Bool → Type 0
Below x b = lt_z (to_z w64 (of_z w64 x)) (pos 0) ≡ b

-- a number below 0, and one that is not
pub data Neg : ℤ → Type 0 where
  neg : (n : ℕ) → n < 2 ^ 63 → Neg (negsuc n)

pub data NonNeg : ℤ → Type 0 where
  nonneg : (n : ℕ) → n < 2 ^ 63 → NonNeg (pos n)

pub is_neg : (x : ℤ) → SFits w64 x → Below x true → Neg x
is_neg (negsuc n) f t = neg n f.sfits
is_neg (pos n) f t = absurd (no n (ltb-true n 0 (ap (λ (z : ℤ). lt_z z (pos 0)) (sym (to_z-of_z f)) ∙ t)))
  where
    no : (n : ℕ) → n < 0 → ⊥
    no n h = omega arith

pub is_non_neg : (x : ℤ) → SFits w64 x → Below x false → NonNeg x
is_non_neg (pos n) f t = nonneg n f.sfits
is_non_neg (negsuc n) f t = absurd (no (ap (λ (z : ℤ). lt_z z (pos 0)) (sym (to_z-of_z f)) ∙ t))
  where
    no : true ≡ false → ⊥
    no e = let z : ◌≡◌ {A = ℕ} 0 1 = cc in omega arith

-- what the code casts
abbrev pub Same : ℤ → ℤ
Same x = to_z w64 (of_z w64 x)

-- what a cast to u64 asks
abbrev pub Casts : ℤ → Type 0
Casts z = T (non_neg z) × Fits w64 (nat_abs z)

pub casts_pos : {x : ℤ} → NonNeg x → Casts (Same x)
casts_pos (nonneg n h) = rw (to_z_pos w64 h) (tt, omega arith)

-- and what it gives
pub cast_pos : {x : ℤ} → NonNeg x → nat_abs (Same x) ≡ mag x
cast_pos (nonneg n h) = rw (to_z_pos w64 h) refl

-- the logic's reading of 64 bits is the specification's
sel_cond : (b : Bool) (x y : ℤ) → sel b x y ≡ cond b x y
sel_cond true x y = refl
sel_cond false x y = refl

pub toZ_signed64 : (u : ℕ) → to_z w64 u ≡ signed64 u
unfolding signed64
toZ_signed64 u = sel_cond (ltb u (2 ^ 63)) (pos u) (negsuc (2 ^ 64 - suc u))

-- two numbers with the same bits, as a test `x == y` of the code says it
pub same_bits : {x y : ℤ} → SFits w64 x → SFits w64 y → of_z w64 x ≡ of_z w64 y → x ≡ y
same_bits f g e = sym (to_z-of_z f) ∙ ap (to_z w64) e ∙ to_z-of_z g

-- a number that is not 0, as the definitions test it
pub is_not_zero : (a : ℤ) → (a ≡ pos 0 → ⊥) → is_zero a ≡ false
unfolding is_zero
is_not_zero (pos zero) h = absurd (h refl)
is_not_zero (pos (suc n)) h = eqb-suc-zero n
is_not_zero (negsuc n) h = refl

-- a number in range is read back from its bits. The number is explicit: `_` is not found under `mag`
pub back : (z : ℤ) → mag z < 2 ^ 63 → to_z w64 (of_z w64 z) ≡ z
back z h = to_z-of_z {w = w64} (record { sfits = h })
