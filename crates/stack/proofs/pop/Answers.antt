-- `stack::pop` meets its contract. Assumes nothing.
use native.Mathlib.Omega.{arith}
use borrow.Author.Rules.{rules}
use Rattle.stack.specs.Instr.{pop}
use Rattle.stack.specs.Stack.{stack_of}
use Rattle.stack.proofs.Cells.{pops_at}
use Rattle.stack.proofs.pop.Goals as goal

pub returns-then-depth-eq0 : goal.returns-then-depth-eq0
unfolding stack_of pop
returns-then-depth-eq0 c = search rules

pub returns : goal.returns
returns c = pops_at _ _ (omega arith) c.requires
