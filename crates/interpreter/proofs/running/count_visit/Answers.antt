-- `interpreter::running::count_visit` meets its contract. Assumes nothing.
use mathlib.Core.Path.{refl}
use borrow.Author.Tests.{lt-ltb, le-ltb}
use lib.ListN.{length}
use Rattle.interpreter.proofs.running.count_visit.Goals as goal

pub returns-then-cell-visits : goal.returns-then-cell-visits
returns-then-cell-visits c = rw (lt-ltb c.args.region (length c.args.visits.now) c.if-cell-visits.true) refl

pub returns-else-cell-visits : goal.returns-else-cell-visits
returns-else-cell-visits c = rw (le-ltb c.args.region (length c.args.visits.now) c.if-cell-visits.false) refl
