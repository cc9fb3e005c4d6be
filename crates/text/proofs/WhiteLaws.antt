-- White space, from what the arms of a `match` on the code point know. Assumes nothing.
use Prim.Native.Nat.{ℕ, ◌<◌, ◌≤◌}
use mathlib.Core.Path.{◌≡◌, ap}
use mathlib.Core.Bool.{true, false, or-true}
use mathlib.Core.Logic.{inl, inr}
use mathlib.Core.List.{List, [], ◌∷◌}
use native.Mathlib.Omega.{arith}
use borrow.Author.Tests.{ne_eqb}
use types.Run.{OneOf}
use Rattle.text.specs.Range.{within}
use Rattle.text.specs.White.{white_space}
use Rattle.text.proofs.RangeLaws.{inside}

-- the single code points of the list
abbrev pub singles : List ℕ
singles = 0x20 ∷ 0x85 ∷ 0xA0 ∷ 0x1680 ∷ 0x202F ∷ 0x205F ∷ 0x3000 ∷ []

-- a key of the single ones is white; a number that is none of them differs from each
pub single_white : (c : ℕ) → OneOf singles c → white_space c ≡ true
unfolding white_space within
single_white c (inl e) = ap white_space e
single_white c (inr (inl e)) = ap white_space e
single_white c (inr (inr (inl e))) = ap white_space e
single_white c (inr (inr (inr (inl e)))) = ap white_space e
single_white c (inr (inr (inr (inr (inl e))))) = ap white_space e
single_white c (inr (inr (inr (inr (inr (inl e)))))) = ap white_space e
single_white c (inr (inr (inr (inr (inr (inr e)))))) = ap white_space e

-- outside the ranges and none of the single ones
pub no_white : (c : ℕ) → (OneOf singles c → ⊥) → within 0x9 0xD c ≡ false → within 0x2000 0x200A c ≡ false
    → within 0x2028 0x2029 c ≡ false → white_space c ≡ false
unfolding white_space
no_white c n e₁ e₂ e₃ =
    simp (
      e₁,
      e₂,
      ne_eqb c 0x20 (λ e. n (inl e)),
      ne_eqb c 0x85 (λ e. n (inr (inl e))),
      ne_eqb c 0xA0 (λ e. n (inr (inr (inl e)))),
      ne_eqb c 0x1680 (λ e. n (inr (inr (inr (inl e))))),
      ne_eqb c 0x202F (λ e. n (inr (inr (inr (inr (inl e)))))),
      ne_eqb c 0x205F (λ e. n (inr (inr (inr (inr (inr (inl e))))))),
      ne_eqb c 0x3000 (λ e. n (inr (inr (inr (inr (inr (inr e))))))),
      e₃,
    )

pub low_white : (c : ℕ) → 0x9 ≤ c → c < 0xE → white_space c ≡ true
unfolding white_space
low_white c l h = simp (inside 0x9 0xD c l (omega arith))

pub mid_white : (c : ℕ) → 0x2000 ≤ c → c < 0x200B → white_space c ≡ true
unfolding white_space
mid_white c l h = simp (inside 0x2000 0x200A c l (omega arith), or-true)

pub pair_white : (c : ℕ) → 0x2028 ≤ c → c < 0x202A → white_space c ≡ true
unfolding white_space
pair_white c l h = simp (inside 0x2028 0x2029 c l (omega arith), or-true)
