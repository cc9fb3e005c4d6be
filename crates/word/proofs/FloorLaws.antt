-- What division rounded down leaves of b (rule 16.3): for a above 0 the residue of b by a, for a below 0 the negation of -b's
-- by -a. So it is 0, or of a's sign and nearer to 0 than a.
--     left_pos, left_neg, left_fits
--     remainder_pos    by a number above 0 both editions have the residue
-- Assumes nothing.
use Rattle.std.proofs.Common.{◌≡◌, ℕ, zero, suc, ◌+◌, ◌-◌, ◌*◌, ◌/◌, ◌%◌, ◌^◌, ◌<◌, [], ◌∷◌, ℤ, pos, negsuc, ◌+ℤ◌, ◌-ℤ◌, ◌*ℤ◌, neg_ℤ, sym, refl, ap, ◌∙◌, mod-lt, mul_comm, div-add-mod', mul-suc, arith, w64, SFits, le-ltb, ne_eqb}
use lib.IntN.{neg_ℤ-neg_ℤ, neg_ℤ-+ℤ}
use Rattle.base.specs.declared.edition.Edition.{Edition}
use Rattle.base.specs.declared.edition.Edition.TheVariants.{Rust, Page}
use Rattle.word.specs.Word.{residue, floor_by, floor_quotient, rust_remainder, page_remainder, remainder}
use Rattle.word.proofs.Signed.{is_not_zero}
use Rattle.word.proofs.Wrapping.{residue_lt, mag_neg}

-- what is left of b
abbrev pub left : ℤ → ℤ → ℤ
left b a = b -ℤ a *ℤ floor_quotient b a

-- one natural less another that is no larger
less : (n k r : ℕ) → k + r ≡ n → pos n -ℤ pos k ≡ pos r
less n zero r e = ap pos (omega arith)
less n (suc k) r e = rw (le-ltb n (suc k) (omega arith)) (ap pos (rest n (suc k) r e))
  where
    rest : (n k r : ℕ) → k + r ≡ n → n - k ≡ r
    rest n k r e = omega arith

above : (m : ℕ) → (pos m ≡ pos 0 → ⊥) → 0 < m
above zero h = absurd (h refl)
above (suc m) h = omega arith

left_residue : (b : ℤ) (m : ℕ) → 0 < m → b -ℤ pos m *ℤ floor_by b m ≡ pos (residue b m)
unfolding floor_by residue
left_residue (pos n) m h = less n (m * (n / m)) (n % m) (omega (arith, div-add-mod' n m, mul_comm m (n / m)))
left_residue (negsuc n) m h =
    ap (λ (z : ℤ). negsuc n +ℤ z) (neg_ℤ-neg_ℤ (pos (m * suc (n / m))))
    ∙ less (m * suc (n / m)) (suc n) (m - suc (n % m)) (omega (arith, div-add-mod' n m, mul_comm m (n / m), mul-suc m (n / m), mod-lt n h))

pub left_pos : (b : ℤ) (m : ℕ) → (pos m ≡ pos 0 → ⊥) → (left b (pos m) ≡ pos (residue b m)) × (residue b m < m)
unfolding floor_quotient
left_pos b m h = (left_residue b m (above m h), residue_lt b m (above m h))

-- for a below 0 both b and the product change their sign
times : (k : ℕ) (z : ℤ) → negsuc k *ℤ z ≡ neg_ℤ (pos (suc k) *ℤ z)
times k (pos n) = refl
times k (negsuc n) = sym (neg_ℤ-neg_ℤ (pos (suc k * suc n)))

opposite : (b z : ℤ) → b -ℤ neg_ℤ z ≡ neg_ℤ (neg_ℤ b -ℤ z)
opposite b z = sym (neg_ℤ-+ℤ (neg_ℤ b) (neg_ℤ z) ∙ ap (λ (x : ℤ). x -ℤ neg_ℤ z) (neg_ℤ-neg_ℤ b))

pub left_neg : (b : ℤ) (k : ℕ) → (left b (negsuc k) ≡ neg_ℤ (pos (residue (neg_ℤ b) (suc k)))) × (residue (neg_ℤ b) (suc k) < suc k)
unfolding floor_quotient
left_neg b k = (
  ap (λ (z : ℤ). b -ℤ z) (times k q) ∙ opposite b (pos (suc k) *ℤ q) ∙ ap neg_ℤ (left_residue (neg_ℤ b) (suc k) (omega arith)),
  residue_lt (neg_ℤ b) (suc k) (omega arith),
)
  where
    q : ℤ
    q = floor_by (neg_ℤ b) (suc k)

pub left_fits : (b a : ℤ) → SFits w64 a → (a ≡ pos 0 → ⊥) → SFits w64 (left b a)
left_fits b (pos m) f h = let l = left_pos b m h in rw l.0 (omega (arith, f.sfits))
left_fits b (negsuc k) f h = let l = left_neg b k in rw l.0 (record { sfits = mag_neg (residue (neg_ℤ b) (suc k)) (omega (arith, f.sfits)) })

-- by a number above 0 both editions have the residue
pub remainder_pos : (a : ℕ) (b : ℤ) → 0 < a → a < 2 ^ 63 → (e : Edition) → remainder e b (pos a) ≡ pos (residue b a) ∷ []
unfolding rust_remainder page_remainder remainder
remainder_pos a b h r Rust = rw (ne_eqb a 0 (λ e. omega arith), ne_eqb a (2 ^ 63) (λ e. omega arith))
remainder_pos a b h r Page = rw (is_not_zero (pos a) some) (ap (λ (z : ℤ). z ∷ []) (left_pos b a some).0)
  where
    some : pos a ≡ pos 0 → ⊥
    some e = let z : a ≡ 0 = cc in omega arith
