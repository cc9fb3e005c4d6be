-- Inner: what the writers ask of their callers, and what the test of a character says. Assumes nothing.
use Rattle.std.specs.Prelude.{◌≡◌, true, false, ℕ, ◌≤◌, ℤ, pos}
use Rattle.flow.specs.Pointer.{Valid}
use Rattle.text.specs.Utf8.{scalar}
use Rattle.machine.specs.declared.Core.{Core}
use Rattle.std.specs.Prelude.{Option, Some, None}
use Rattle.telling.specs.Outputs.{is_char}

-- what is told of lies within the lent slices, and its pointers are a state
pub record Inside (core : Core) (cells kinds values : ℕ) : Type 0 where
  pub deep : core.depth ≤ cells
  pub told : core.outputs ≤ kinds
  pub given : core.outputs ≤ values
  pub valid : Valid core.pointers

-- which character a value is, if it is one
unfoldable pub Names : ℤ → Option ℕ → Type 0
Names v (Some c) = (v ≡ pos c) × (scalar c ≡ true)
Names v None = is_char v ≡ false
