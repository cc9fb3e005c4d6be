-- `cfg::building::legal_first` meets its contract: `position` finds the first colour above 19. Assumes nothing.
use mathlib.Core.Path.{◌≡◌, ◌∙◌, sym, refl}
use mathlib.Core.List.{List, ◌∷◌}
use Prim.Native.Nat.{ℕ, ◌+◌, ◌<◌, ◌≤◌}
use borrow.Author.Tests.{lt-ltb, le-ltb}
use native.Mathlib.Omega.{arith}
use Rattle.std.proofs.Common.{rules, tests}
use Rattle.std.proofs.lemmas.Iterator.{YieldsList-from_slice, IsFirst-from_position, index_from_first}
use Rattle.cfg.specs.Build.{legal_first}
use Rattle.cfg.proofs.building.legal_first.Goals as goal

above : (c : ℕ) (cs : List ℕ) → 19 < c → legal_first (c ∷ cs) ≡ 0
unfolding legal_first
above c cs h = rw (lt-ltb 19 c h)

legal : (c : ℕ) (cs : List ℕ) → c ≤ 19 → legal_first (c ∷ cs) ≡ legal_first cs + 1
unfolding legal_first
legal c cs h = rw (le-ltb 19 c h) (omega arith)

pub returns : goal.returns
unfolding legal_first
returns c =
    let found =
    IsFirst-from_position _ _ c.position-first.result (λ x. 19 < x) (λ x. x ≤ 19) c.position-first.ensures.ran (YieldsList-from_slice c.args.colours.now (cc))
    (λ x q k. search (rules, tests)) (λ x q k. search (rules, tests)) in
    c.unwrap_or.ensures ∙ sym (index_from_first legal_first (λ x. 19 < x) (λ x. x ≤ 19) refl above legal c.args.colours.now c.position-first.result found)
