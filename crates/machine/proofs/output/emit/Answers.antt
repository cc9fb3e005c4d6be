-- `machine::output::emit` meets its contract. Assumes nothing.
use native.Mathlib.Numerals.{add-one}
use mir.Facts.{to_z-of_z}
use Rattle.machine.proofs.Emitting.{emits}
use Rattle.machine.proofs.output.emit.Goals as goal

pub returns : goal.returns
returns c = rw (add-one, to_z-of_z c.ranges.v) (emits _ _ _ _ _ c.requires.holds c.requires.n_in_bounds.0 c.requires.n_in_bounds.1)
