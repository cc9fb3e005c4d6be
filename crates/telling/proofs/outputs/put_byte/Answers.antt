-- `telling::outputs::put_byte` meets its contract: one byte is written.
-- Assumes nothing.
use native.Mathlib.Omega.{arith}
use borrow.Author.Rules.{rules}
use Rattle.base.proofs.Over.{over_one}
use Rattle.report.proofs.Writing.{wrote}
use Rattle.telling.proofs.outputs.put_byte.Goals as goal

pub returns : goal.returns
returns c = wrote (record { next = search rules; list = over_one _ _ _ (omega arith) }) 1 (omega arith)
