-- `interpreter::running::keep_exit` meets its contract. Assumes nothing.
use mathlib.Core.Path.{refl}
use borrow.Author.Tests.{lt-ltb, le-ltb}
use lib.ListN.{length}
use Rattle.interpreter.proofs.running.keep_exit.Goals as goal

pub returns-then-cell-taken : goal.returns-then-cell-taken
returns-then-cell-taken c = rw (lt-ltb c.args.made (length c.args.taken.now) c.if-cell-taken.true) refl

pub returns-else-cell-taken : goal.returns-else-cell-taken
returns-else-cell-taken c = rw (le-ltb c.args.made (length c.args.taken.now) c.if-cell-taken.false) refl
