-- What was read has one response. Assumes nothing.
use mathlib.Core.Path.{◌≡◌}
use mathlib.Core.List.{List}
use Prim.Native.Nat.{ℕ, ◌≤◌}
use lib.ListN.{length}
use Rattle.stream.specs.declared.Stop.{Stop}
use Rattle.stream.specs.Responds.{Responds}
use Rattle.stream.proofs.Only as stream
use Rattle.shade.specs.Shade.{Outcome}
use Rattle.shade.proofs.Only.{outcome_only}

pub responds_only : {s : Stop} {buffer before after after' : List ℕ} {r r' : ℕ} → s.done ≤ length buffer
    → Responds Outcome s buffer before r after → Responds Outcome s buffer before r' after'
    → (r ≡ r') × (after ≡ after')
responds_only = stream.responds_only (λ input before after after' r r'. outcome_only)
