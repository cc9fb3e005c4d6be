-- `stack::not` meets its contract: the top's place takes the bit. Assumes nothing.
use mathlib.Core.Path.{◌≡◌, refl, ap, ◌∙◌}
use mathlib.Core.Bool.{Bool, true, false}
use mathlib.Core.List.{List, ◌∷◌}
use Prim.Native.Nat.{ℕ, ◌-◌, ◌<◌}
use native.Mathlib.Omega.{arith}
use borrow.Author.Tests.{ne_eqb}
use borrow.Author.Rules.{sfits_of, rules}
use lib.Dec.{eqb}
use lib.ListN.{get_or, drop}
use lib.IntN.{ℤ, pos, negsuc}
use mir.Syntax.{w64}
use mir.Val.{SFits, of_z, bool_byte}
use Rattle.word.proofs.Signed.{back}
use Rattle.word.specs.Word.{is_zero}
use Rattle.stack.specs.Stack.{Does, stack_of}
use Rattle.stack.specs.Instr as Instr
use Rattle.stack.specs.Instr.{bit}
use Rattle.stack.proofs.Cells.{one}
use Rattle.stack.proofs.not.Goals as goal

-- the top becomes v
nots : {cells cells' : List ℤ} {d d' : ℕ} (v : ℤ) → 0 < d → v ≡ bit (is_zero (get_or cells (d - 1) (pos 0)))
    → Does (λ s. v ∷ drop 1 s) cells d cells' d' → Does Instr.not cells d cells' d'
unfolding Instr.not
nots {cells} {cells'} {d} v h e p = record { lies = p.lies; is = p.is ∙ rw (one cells d h, e) refl }

bit_is : (t : Bool) → pos (bool_byte t) ≡ bit t
bit_is true = refl
bit_is false = refl

same_test : (a : ℤ) → SFits w64 a → eqb (of_z w64 a) 0 ≡ is_zero a
unfolding is_zero
same_test (pos n) f = refl
same_test (negsuc n) f = ne_eqb _ 0 (λ e. omega (arith, f.sfits))

pub returns-then-depth-eq0 : goal.returns-then-depth-eq0
unfolding stack_of Instr.not
returns-then-depth-eq0 c = search rules

pub returns : goal.returns
returns c =
    let a : ℤ = get_or c.args.stack.now (c.args.depth - 1) (pos 0) in
    let e = c.from.ensures ∙ bit_is (eqb (of_z w64 a) 0) ∙ ap bit (same_test a (sfits_of c.a-1.given)) in
    nots c.from.result (omega arith) e (rw (back c.from.result c.from.type_inv) at c.put.ensures)
