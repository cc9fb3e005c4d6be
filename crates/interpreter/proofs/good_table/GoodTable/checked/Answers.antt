-- `interpreter::good_table::GoodTable::checked` meets its contract. A table that is not refused may be relied on. Assumes nothing.
use mathlib.Core.Path.{sym, ◌∙◌}
use Rattle.interpreter.proofs.ValidLaws.{good_of}
use Rattle.interpreter.proofs.good_table.GoodTable.checked.Goals as goal

pub invariant_of-result : goal.invariant_of-result
invariant_of-result c = record { good = good_of _ _ _ _ (sym c.valid.ensures ∙ c.if-not-valid.false) }
