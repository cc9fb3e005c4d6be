-- `report::put_letter` meets its contract: one word or the other.
-- Assumes nothing.
use borrow.Author.Tests.{eq-eqb, ne_eqb}
use Rattle.report.proofs.put_letter.Goals as goal

pub put_word-requires : goal.put_word-requires
put_word-requires c = rw (eq-eqb _ _ c.if-kind-eq1.true) at c.requires

pub returns-then-kind-eq1 : goal.returns-then-kind-eq1
returns-then-kind-eq1 c = rw (eq-eqb _ _ c.if-kind-eq1.true) c.put_word.ensures

pub put_word-requires-2 : goal.put_word-requires-2
put_word-requires-2 c = rw (ne_eqb _ _ c.if-kind-eq1.false) at c.requires

pub returns : goal.returns
returns c = rw (ne_eqb _ _ c.if-kind-eq1.false) c.put_word-2.ensures
