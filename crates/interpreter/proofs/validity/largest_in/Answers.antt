-- `interpreter::validity::largest_in` meets its contract, by the edition. Assumes nothing.
use Rattle.interpreter.proofs.validity.largest_in.Goals as goal

pub returns-in-Rust : goal.returns-in-Rust
returns-in-Rust c = rw c.in-Rust.is

pub returns-in-Page : goal.returns-in-Page
returns-in-Page c = rw c.in-Page.is
