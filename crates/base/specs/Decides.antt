-- A test that says exactly whether something holds. Assumes nothing.
use Rattle.std.specs.Prelude.{Bool, true, false}

abbrev pub Decides : Type 0 → Bool → Type 0
Decides P true = P
Decides P false = P → ⊥
