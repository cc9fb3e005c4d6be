-- `stack::double` meets its contract. Assumes nothing.
use native.Mathlib.Omega.{arith}
use borrow.Author.Rules.{rules}
use Rattle.stack.specs.Instr.{dup}
use Rattle.stack.specs.Stack.{stack_of, Grows}
use Rattle.stack.proofs.Cells.{dup_full}
use Rattle.stack.proofs.double.Goals as goal

pub returns-then-depth-eq0 : goal.returns-then-depth-eq0
unfolding Grows stack_of dup
returns-then-depth-eq0 c = search rules

pub returns-then-depth-stack : goal.returns-then-depth-stack
unfolding Grows
returns-then-depth-stack c = dup_full _ _ (omega arith) c.if-depth-stack.true

pub returns : goal.returns
unfolding Grows
returns c = search rules
