-- Laws of wrapping: the bits of a number are its residue modulo 2^64, and wrapping leaves a number that fits as it is.
use Rattle.std.proofs.Common.{◌≡◌, ℕ, zero, suc, ◌+◌, ◌-◌, ◌/◌, ◌%◌, ◌^◌, ◌<◌, ◌≤◌, Bool, true, false, cond, ltb, ℤ, pos, negsuc, neg_ℤ, sym, refl, ap, ◌∙◌, mod-lt, mod-eq_of_lt, mul_comm, div-lt_iff_lt-mul, div-le_self, arith, w64, SFits, to_z, of_z, nat_abs, ltb-false, ltb-true}
use native.Mathlib.Nat.{mod_self, suc-mod}
use lib.Signed.{mag, quot_z, rem_z}
use Rattle.std.specs.Int.{int_rem_euclid, int_wrap}
use Rattle.word.proofs.Signed.{toZ_signed64}
use Rattle.word.specs.Word.{residue, signed64, wrap}

abbrev M : ℕ
M = 2 ^ 64

pub below : (z : ℤ) → residue z (2 ^ 64) < 2 ^ 64
unfolding residue
below (pos n) = omega arith
below (negsuc n) = omega arith

-- ---- the library's words: the bits of a number whose absolute value is 2^63 at most, and what wrapping leaves

pub bits_are : (z : ℤ) → nat_abs z ≤ 2 ^ 63 → of_z w64 z ≡ residue z (2 ^ 64)
unfolding residue
bits_are (pos n) h = omega arith
bits_are (negsuc n) h = omega arith

pub wraps : (z : ℤ) → nat_abs z ≤ 2 ^ 63 → to_z w64 (of_z w64 z) ≡ wrap z
unfolding wrap
wraps z h = toZ_signed64 (of_z w64 z) ∙ ap signed64 (bits_are z h)

pub euclid_is : (z : ℤ) (m : ℕ) → int_rem_euclid z (pos m) ≡ pos (residue z m)
unfolding residue
euclid_is (pos n) m = refl
euclid_is (negsuc n) m = ap pos (omega arith)

pub int_wrap_is : (z : ℤ) → int_wrap w64 z ≡ wrap z
unfolding int_wrap wrap
int_wrap_is z = toZ_signed64 _ ∙ ap (λ (r : ℤ). signed64 (nat_abs r)) (euclid_is z (2 ^ 64))

-- ---- a number that fits is its own wrap

half : (u : ℕ) (t : Bool) → ltb u (2 ^ 63) ≡ t → u < 2 ^ 63 → cond t (pos u) (negsuc (M - suc u)) ≡ pos u
half u true e h = refl
half u false e h = absurd (no u (ltb-false u (2 ^ 63) e) h)
  where
    no : (u : ℕ) → 2 ^ 63 ≤ u → u < 2 ^ 63 → ⊥
    no u p q = omega arith

upper : (u n : ℕ) (t : Bool) → ltb u (2 ^ 63) ≡ t → 2 ^ 63 ≤ u → M - suc u ≡ n → cond t (pos u) (negsuc (M - suc u)) ≡ negsuc n
upper u n false e h p = ap negsuc p
upper u n true e h p = absurd (no u (ltb-true u (2 ^ 63) e) h)
  where
    no : (u : ℕ) → u < 2 ^ 63 → 2 ^ 63 ≤ u → ⊥
    no u p q = omega arith

pub wrap_fits : (z : ℤ) → SFits w64 z → wrap z ≡ z
unfolding residue signed64 wrap
wrap_fits (pos n) f =
    rw (mod-eq_of_lt {n = n} {m = M} (omega arith)) (half n (ltb n (2 ^ 63)) refl f.sfits)
wrap_fits (negsuc n) f =
    rw (mod-eq_of_lt {n = n} {m = M} (omega arith)) (upper (M - suc n) n (ltb (M - suc n) (2 ^ 63)) refl (omega arith) (omega arith))

-- ---- the quotient

pub mag_neg : (r : ℕ) → r < 2 ^ 63 + 1 → mag (neg_ℤ (pos r)) < 2 ^ 63
mag_neg zero h = omega arith
mag_neg (suc r) h = omega arith

-- suc b / (a + 2), which is at most 2^62
least : (b a : ℕ) → b < 2 ^ 63 → suc b / suc (suc a) < 2 ^ 63
least b a h = (div-lt_iff_lt-mul {k = suc (suc a)} {x = suc b} {y = 2 ^ 63} (omega arith)).1 (omega (arith, mul_comm (2 ^ 63) (suc (suc a))))

pub quot_fits : (b a : ℤ) → SFits w64 b → (a ≡ negsuc 0 → ⊥) → SFits w64 (quot_z b a)
quot_fits (pos b) (pos a) f h = omega (arith, f.sfits, div-le_self b a)
quot_fits (pos b) (negsuc a) f h = record { sfits = mag_neg (b / suc a) (omega (arith, f.sfits, div-le_self b (suc a))) }
quot_fits (negsuc b) (pos a) f h = record { sfits = mag_neg (suc b / a) (omega (arith, f.sfits, div-le_self (suc b) a)) }
quot_fits (negsuc b) (negsuc zero) f h = absurd (h refl)
quot_fits (negsuc b) (negsuc (suc a)) f h = record { sfits = least b a f.sfits }

abs_neg : (n : ℕ) → nat_abs (neg_ℤ (pos n)) ≡ n
abs_neg zero = refl
abs_neg (suc n) = refl

-- the quotient by -1 too, which may be 2^63
pub quot_abs : (b a : ℤ) → nat_abs (quot_z b a) ≤ nat_abs b
quot_abs (pos b) (pos a) = div-le_self b a
quot_abs (pos b) (negsuc a) = rw abs_neg (div-le_self b (suc a))
quot_abs (negsuc b) (pos a) = rw abs_neg (div-le_self (suc b) a)
quot_abs (negsuc b) (negsuc a) = div-le_self (suc b) (suc a)

-- ---- the residue from the remainder

-- a remainder is the residue, or falls short of it by m
pub data Rem (b : ℤ) (m : ℕ) : ℤ → Type 0 where
  up : (r : ℕ) → r ≡ residue b m → Rem b m (pos r)
  down : (r : ℕ) → r < m → m - suc r ≡ residue b m → Rem b m (negsuc r)

-- one more than n, modulo m
step : (n m : ℕ) (t : Bool) → ltb (suc (n % m)) m ≡ t → 0 < m → Rem (negsuc n) m (neg_ℤ (pos (suc n % m)))
unfolding residue
step n m true e h =
    let k = ltb-true (suc (n % m)) m e in
    rw (suc-mod n m, mod-eq_of_lt k) (down (n % m) (omega arith) refl)
step n m false e h =
    let g = ltb-false (suc (n % m)) m e in
    let l = mod-lt n h in
    let q : suc (n % m) ≡ m = omega arith in
    rw (suc-mod n m, ap (λ (k : ℕ). k % m) q ∙ mod_self m) (up 0 (omega arith))

pub is_rem : (b : ℤ) (m : ℕ) → 0 < m → Rem b m (rem_z b (pos m))
unfolding residue
is_rem (pos n) m h = up (n % m) refl
is_rem (negsuc n) m h = step n m (ltb (suc (n % m)) m) refl h

pub residue_lt : (z : ℤ) (m : ℕ) → 0 < m → residue z m < m
unfolding residue
residue_lt (pos n) m h = mod-lt n h
residue_lt (negsuc n) m h = omega arith

-- ---- smaller residues from the 64 bits

pub residue_4 : (z : ℤ) → residue z (2 ^ 64) % 4 ≡ residue z 4
unfolding residue
residue_4 (pos n) = omega arith
residue_4 (negsuc n) = omega arith

pub residue_2 : (z : ℤ) → residue z (2 ^ 64) % 2 ≡ residue z 2
unfolding residue
residue_2 (pos n) = omega arith
residue_2 (negsuc n) = omega arith

-- ---- what `wrap` says of itself: the number is in range, differs from z by a multiple of 2^64, and is the only such one

signed_fits : (u : ℕ) (t : Bool) → ltb u (2 ^ 63) ≡ t → u < 2 ^ 64 → mag (cond t (pos u) (negsuc (M - suc u))) < 2 ^ 63
signed_fits u true e h = ltb-true u (2 ^ 63) e
signed_fits u false e h = let k = ltb-false u (2 ^ 63) e in omega arith

pub wrap_range : (z : ℤ) → mag (wrap z) < 2 ^ 63
unfolding wrap signed64
wrap_range z = signed_fits (residue z M) (ltb (residue z M) (2 ^ 63)) refl (below z)

signed_back : (u : ℕ) (t : Bool) → ltb u (2 ^ 63) ≡ t → u < 2 ^ 64 → residue (cond t (pos u) (negsuc (M - suc u))) M ≡ u
unfolding residue
signed_back u true e h = omega arith
signed_back u false e h = let k = ltb-false u (2 ^ 63) e in omega arith

pub wrap_differs : (z : ℤ) → residue (wrap z) (2 ^ 64) ≡ residue z (2 ^ 64)
unfolding wrap signed64
wrap_differs z = signed_back (residue z M) (ltb (residue z M) (2 ^ 63)) refl (below z)

pub wrap_only : (z w : ℤ) → mag w < 2 ^ 63 → residue w (2 ^ 64) ≡ residue z (2 ^ 64) → w ≡ wrap z
unfolding wrap
wrap_only z w h e = sym (wrap_fits w (record { sfits = h })) ∙ ap signed64 e
