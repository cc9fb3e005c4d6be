-- Texts of a count that say nothing of 0. Assumes nothing.
use mathlib.Core.Path.{◌≡◌, refl}
use mathlib.Core.List.{List, [], ◌++◌}
use Prim.Native.Nat.{ℕ, zero, suc, ◌<◌}
use native.Mathlib.Omega.{arith}
use Rattle.base.specs.Text.{ascii}
use Rattle.report.specs.Text.{counted, line}
use Rattle.telling.specs.Words.{others}
use Rattle.telling.specs.Ending.{unless_none}

pub others_none : (n : ℕ) → n ≡ 0 → others n ≡ []
unfolding others
others_none n e = rw e

pub others_some : (n : ℕ) → 0 < n → others n ≡ counted (ascii " and ") n ++ ascii " more"
unfolding others
others_some zero h = absurd (omega arith)
others_some (suc n) h = refl

pub unless-none : (word : List ℕ) (n : ℕ) → n ≡ 0 → unless_none word n ≡ []
unfolding unless_none
unless-none word n e = rw e

pub unless_some : (word : List ℕ) (n : ℕ) → 0 < n → unless_none word n ≡ line word n
unfolding unless_none
unless_some word zero h = absurd (omega arith)
unless_some word (suc n) h = refl
