-- `word::modulo` meets its contract: each arm is what its callee ensures. Assumes nothing.
use Rattle.std.proofs.Common.{to_z-of_z}
use Rattle.word.specs.Word.{remainder}
use Rattle.word.proofs.modulo.Goals as goal

pub returns-in-Rust : goal.returns-in-Rust
unfolding remainder
returns-in-Rust c =
    let s = c.ranges in
    rw c.in-Rust.is (rw (to_z-of_z s.b, to_z-of_z s.a) at c.modulo_rust.ensures)

pub returns-in-Page : goal.returns-in-Page
unfolding remainder
returns-in-Page c =
    let s = c.ranges in
    rw c.in-Page.is (rw (to_z-of_z s.b, to_z-of_z s.a) at c.modulo_page.ensures)
