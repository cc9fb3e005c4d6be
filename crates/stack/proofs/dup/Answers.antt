-- `stack::dup` meets its contract: the top is pushed. Assumes nothing.
use mathlib.Core.Path.{refl, ◌∙◌}
use mathlib.Core.List.{List}
use Prim.Native.Nat.{ℕ, ◌-◌, ◌<◌}
use native.Mathlib.Omega.{arith}
use borrow.Author.Rules.{rules}
use lib.ListN.{get_or}
use lib.IntN.{ℤ, pos}
use Rattle.word.proofs.Signed.{back}
use Rattle.stack.specs.Stack.{Does, stack_of}
use Rattle.stack.specs.Instr as Instr
use Rattle.stack.proofs.Cells.{one}
use Rattle.stack.proofs.dup.Goals as goal

dups : {cells cells' : List ℤ} {d d' : ℕ} → 0 < d → Does (Instr.push (get_or cells (d - 1) (pos 0))) cells d cells' d'
    → Does Instr.dup cells d cells' d'
unfolding Instr.dup
dups {cells} {cells'} {d} h p = record { lies = p.lies; is = p.is ∙ rw (one cells d h) refl }

pub returns-then-depth-eq0 : goal.returns-then-depth-eq0
unfolding stack_of Instr.dup
returns-then-depth-eq0 c = search rules

pub push-requires : goal.push-requires
push-requires c =
    record { lies = c.requires.lies; depth_in_bounds = c.requires.depth_in_bounds (omega arith) }

pub returns : goal.returns
returns c =
    let a = get_or c.args.stack.now (c.args.depth - 1) (pos 0) in
    let p = rw (back a c.a-1.given) at c.push.ensures in
    dups (omega arith) p
