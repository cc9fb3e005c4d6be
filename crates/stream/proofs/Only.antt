-- What was read has one response, where an input has one outcome. Assumes nothing.
use mathlib.Core.Path.{◌≡◌, sym, ◌∙◌}
use mathlib.Core.List.{List}
use Prim.Native.Nat.{ℕ, ◌≤◌}
use native.Mathlib.Omega.{arith}
use lib.ListN.{length, take, length-take}
use lib.Seq.{take_all}
use Rattle.base.proofs.Clash.{clash}
use Rattle.stream.specs.declared.Stop.{Stop}
use Rattle.stream.specs.Responds.{Holds, Responds, answered, unread}

-- what was read is itself an input that the buffer holds
holds_itself : (buffer : List ℕ) (done : ℕ) → done ≤ length buffer → Holds buffer done (take done buffer)
holds_itself buffer done h = sym (take_all (length buffer) (take done buffer) (omega (arith, length-take done buffer)))

-- an input has one outcome
abbrev pub One : (List ℕ → List ℕ → ℕ → List ℕ → Type 0) → Type 0
One Outcome = (input before after after' : List ℕ) (r r' : ℕ) → Outcome input before r after → Outcome input before r' after' → (r ≡ r') × (after ≡ after')

pub responds_only : {Outcome : List ℕ → List ℕ → ℕ → List ℕ → Type 0} → One Outcome
    → {s : Stop} {buffer before after after' : List ℕ} {r r' : ℕ} → s.done ≤ length buffer
    → Responds Outcome s buffer before r after → Responds Outcome s buffer before r' after'
    → (r ≡ r') × (after ≡ after')
responds_only one {s} {buffer} h (answered w f) (answered w' g) =
    let itself = holds_itself buffer s.done h in
    one (take s.done buffer) _ _ _ _ _ (f (take s.done buffer) itself) (g (take s.done buffer) itself)
responds_only one h (answered w f) (unread w' e' q') = clash (cc)
responds_only one h (unread w e q) (answered w' g) = clash (cc)
responds_only one h (unread w e q) (unread w' e' q') = (e ∙ sym e', q ∙ sym q')
