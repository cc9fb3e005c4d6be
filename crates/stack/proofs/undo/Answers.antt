-- `stack::undo` meets its contract, by the edition. Assumes nothing.
use mathlib.Core.Path.{refl}
use Rattle.stack.specs.Instr.{undone}
use Rattle.stack.proofs.undo.Goals as goal

pub returns-in-Rust : goal.returns-in-Rust
unfolding undone
returns-in-Rust c = rw c.in-Rust.is c.pop_two.ensures

pub returns-in-Page : goal.returns-in-Page
unfolding undone
returns-in-Page c = rw c.in-Page.is (record { lies = c.requires.lies; is = refl })
