-- Laws of a range. Assumes nothing.
use Prim.Native.Nat.{ℕ, ◌<◌, ◌≤◌}
use mathlib.Core.Path.{◌≡◌, sym, ◌∙◌}
use mathlib.Core.Bool.{true, false, and-false, true≢false}
use mathlib.Core.Logic.{◌⊎◌, inl, inr}
use borrow.Author.Tests.{le-leb, lt-leb}
use Rattle.base.proofs.Tests.{by_size}
use Rattle.text.specs.Range.{within}

pub inside : (lo hi c : ℕ) → lo ≤ c → c ≤ hi → within lo hi c ≡ true
unfolding within
inside lo hi c l h = rw (le-leb lo c l, le-leb c hi h)

pub below : (lo hi c : ℕ) → c < lo → within lo hi c ≡ false
unfolding within
below lo hi c h = rw (lt-leb lo c h)

pub above : (lo hi c : ℕ) → hi < c → within lo hi c ≡ false
unfolding within
above lo hi c h = rw (lt-leb c hi h, and-false)

pub outside : (lo hi c : ℕ) → within lo hi c ≡ false → (c < lo) ⊎ (hi < c)
outside lo hi c e =
    by_size c lo (λ l. inl l) (λ l. by_size hi c (λ h. inr h) (λ h. absurd (true≢false (sym (inside lo hi c l h) ∙ e))))
