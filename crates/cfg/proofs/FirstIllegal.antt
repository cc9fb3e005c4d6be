-- Refusal 8 gives the first colour above 19: those before it are at most 19, and the one there is above. Assumes nothing.
use mathlib.Core.Path.{◌≡◌, refl}
use mathlib.Core.Bool.{Bool, true, false, cond}
use mathlib.Core.List.{List, [], ◌∷◌}
use Prim.Native.Nat.{ℕ, zero, suc, ◌<◌, ◌≤◌}
use native.Mathlib.Nat.{not-suc-le-zero, le_of_suc-le-suc}
use borrow.Author.Tests.{ltb-true, ltb-false}
use lib.Dec.{ltb}
use lib.ListN.{length, get_or}
use Rattle.cfg.specs.Build.{legal_first}

pub legal_before : (cs : List ℕ) (i : ℕ) → i < legal_first cs → get_or cs i 0 ≤ 19
unfolding legal_first
legal_before [] i h = absurd (not-suc-le-zero h)
legal_before (c ∷ cs) i h = by_test (ltb 19 c) refl i h (legal_before cs)
  where
    by_test : (t : Bool) → ltb 19 c ≡ t → (i : ℕ) → i < cond t 0 (suc (legal_first cs)) → ((j : ℕ) → j < legal_first cs → get_or cs j 0 ≤ 19)
        → get_or (c ∷ cs) i 0 ≤ 19
    by_test true e i h before = absurd (not-suc-le-zero h)
    by_test false e zero h before = ltb-false 19 c e
    by_test false e (suc i) h before = before i (le_of_suc-le-suc h)

pub illegal_there : (cs : List ℕ) → legal_first cs < length cs → 19 < get_or cs (legal_first cs) 0
unfolding legal_first
illegal_there [] h = absurd (not-suc-le-zero h)
illegal_there (c ∷ cs) h = by_test (ltb 19 c) refl h (illegal_there cs)
  where
    by_test : (t : Bool) → ltb 19 c ≡ t → cond t 0 (suc (legal_first cs)) < suc (length cs) → (legal_first cs < length cs → 19 < get_or cs (legal_first cs) 0)
        → 19 < get_or (c ∷ cs) (cond t 0 (suc (legal_first cs))) 0
    by_test true e h there = ltb-true 19 c e
    by_test false e h there = there (le_of_suc-le-suc h)
