-- Roll at a bad depth, and what is left of it at another once its two values are gone. Assumes nothing.
use mathlib.Core.Path.{◌≡◌, refl, sym, ap, ◌∙◌}
use mathlib.Core.List.{List}
use mathlib.Core.Bool.{Bool, true, false, true≢false, cond}
use Prim.Native.Nat.{ℕ, zero, suc, ◌-◌, ◌^◌, ◌<◌, ◌≤◌}
use native.Mathlib.Omega.{arith}
use borrow.Author.Tests.{ne_eqb, ltb-false}
use lib.Dec.{ltb}
use lib.ListN.{length, get_or, drop}
use lib.IntN.{ℤ, pos, negsuc, nat_abs}
use lib.Signed.{mag}
use Rattle.base.specs.declared.edition.Edition.{Edition}
use Rattle.word.specs.Word.{residue}
use Rattle.word.proofs.Signed.{NonNeg, nonneg}
use Rattle.stack.specs.Stack.{stack_of, Lies, Does}
use Rattle.stack.specs.Instr as Instr
use Rattle.stack.specs.Instr.{bad_depth, places}
use Rattle.stack.proofs.Cells.{two, stack_of_length}

pub few_roll : (e : Edition) (cells : List ℤ) (d : ℕ) → d < 2 → Lies cells d → Does (Instr.roll e) cells d cells d
unfolding Instr.roll stack_of
few_roll e cells zero h l = record { lies = l; is = refl }
few_roll e cells (suc zero) h l = record { lies = l; is = refl }
few_roll e cells (suc (suc d)) h l = absurd (omega arith)

-- whether the depth of a Roll, in the second cell from the top, is bad
abbrev pub bad_at : List ℤ → ℕ → Bool
bad_at c d = bad_depth (get_or c (d - 2) (pos 0)) (d - 2)

-- some values turn where not none do
pub some : (m : ℕ) → (m ≡ 0 → ⊥) → 0 < m
some m h = omega arith

-- a depth that is not bad is not below 0
pub good_nonneg : (n : ℤ) (d : ℕ) → mag n < 2 ^ 63 → bad_depth n d ≡ false → NonNeg n
unfolding bad_depth
good_nonneg (pos n) d h g = nonneg n h
good_nonneg (negsuc n) d h g = absurd (true≢false g)

-- how many values turn at a depth that is not bad, and at a bad one
pub places_good : (n : ℤ) (d : ℕ) → bad_depth n d ≡ false → places n d ≡ nat_abs n
unfolding places
places_good n d g = rw g refl

pub places_bad : (n : ℤ) (d : ℕ) → bad_depth n d ≡ true → places n d ≡ 0
unfolding places
places_bad n d g = rw g refl

pub places_le : (n : ℤ) (d : ℕ) → places n d ≤ d
unfolding places bad_depth
places_le (negsuc n) d = omega arith
places_le (pos n) d = go (ltb d n) refl
  where
    go : (t : Bool) → ltb d n ≡ t → cond t 0 n ≤ d
    go true e = omega arith
    go false e = ltb-false d n e

-- the two values are gone
module _ {c c₁ : List ℤ} {d d₁ : ℕ} (h : 2 ≤ d) (p : Does (drop 2) c d c₁ d₁) where
  rest : stack_of c₁ d₁ ≡ stack_of c (d - 2)
  rest = p.is ∙ rw (two c d h) refl

  pub depth : d₁ ≡ d - 2
  depth = sym (stack_of_length c₁ d₁) ∙ ap length rest ∙ stack_of_length c (d - 2)

-- a Roll at a bad depth, one that turns no values, and one that turns m of them
module _ (e : Edition) {c : List ℤ} {d : ℕ} (h : 2 ≤ d) where
  pub roll_bad : {c₁ : List ℤ} {d₁ : ℕ} → bad_at c d ≡ true → Does (Instr.undone e) c d c₁ d₁
      → Does (Instr.roll e) c d c₁ d₁
  unfolding Instr.roll
  roll_bad b p = record { lies = p.lies; is = p.is ∙ rw (two c d h, stack_of_length c (d - 2), b) refl }

  pub roll_none : {c₁ : List ℤ} {d₁ : ℕ} → bad_at c d ≡ false → Does (drop 2) c d c₁ d₁
      → places (get_or c (d - 2) (pos 0)) (d - 2) ≡ 0 → Does (Instr.roll e) c d c₁ d₁
  unfolding Instr.roll Instr.rolled
  roll_none b p z = record { lies = p.lies; is = rest h p ∙ rw (two c d h, stack_of_length c (d - 2), b, sym (places_good _ _ b) ∙ z) refl }

  pub roll_some : {c₁ c₂ : List ℤ} {d₁ : ℕ} → bad_at c d ≡ false → Does (drop 2) c d c₁ d₁
      → (m k : ℕ) → m ≡ places (get_or c (d - 2) (pos 0)) (d - 2) → 0 < m → k ≡ residue (get_or c (d - 1) (pos 0)) m
      → Does (Instr.turn m k) c₁ d₁ c₂ d₁ → Does (Instr.roll e) c d c₂ d₁
  unfolding Instr.roll Instr.rolled
  roll_some b p m k f g r q = record {
    lies = q.lies;
    is = q.is ∙ ap (Instr.turn m k) (rest h p)
        ∙ rw (two c d h, stack_of_length c (d - 2), b, ← (f ∙ places_good _ _ b), ne_eqb m 0 (λ z. omega arith), r) refl;
  }
