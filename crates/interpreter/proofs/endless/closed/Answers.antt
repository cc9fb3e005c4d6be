use mathlib.Core.Path.{◌≡◌, sym, ap, ◌∙◌}
use Prim.Native.Nat.{ℕ}
use native.Mathlib.Omega.{arith}
use borrow.Author.Tests.{eq-eqb, ne_eqb}
use lib.Dec.{eqb}
use lib.ListN.{get_or}
use Rattle.interpreter.specs.Table.{every}
use Rattle.interpreter.proofs.ValidLaws.{every_none, every_more, every_not}
use Rattle.table.specs.Layout.{exit_cell}
use Rattle.interpreter.proofs.endless.closed.Goals as goal

pub loop-k-init : goal.loop-k-init
loop-k-init c = every_none _

pub bounds-exits-exit_cell : goal.bounds-exits-exit_cell
bounds-exits-exit_cell c = omega (arith, c.exit_cell.ensures)

pub returns-then-w-ne0 : goal.returns-then-w-ne0
returns-then-w-ne0 c =
    let the-args = c.args in
    let the-loop = c.loop-k in
    let the-exit-cell = c.exit_cell in
    let w : ℕ → ℕ = λ j. get_or the-args.exits.now (exit_cell the-args.region j) 0 in
    sym (every_not (λ j. eqb (w j) 0) the-loop.k 8 (omega arith) (ne_eqb (w the-loop.k) 0 (rw the-exit-cell.ensures at c.if-w-ne0.true)))

pub loop-k-preserved : goal.loop-k-preserved
loop-k-preserved c =
    let the-args = c.args in
    let the-loop = c.loop-k in
    let the-exit-cell = c.exit_cell in
    let w : ℕ → ℕ = λ j. get_or the-args.exits.now (exit_cell the-args.region j) 0 in
    every_more (λ j. eqb (w j) 0) the-loop.k (eq-eqb (w the-loop.k) 0 (rw the-exit-cell.ensures at c.if-w-ne0.false)) the-loop.invariant

pub returns : goal.returns
returns c =
    let the-args = c.args in
    let w : ℕ → ℕ = λ j. get_or the-args.exits.now (exit_cell the-args.region j) 0 in
    let e : c.loop-k.k ≡ 8 = omega (arith, c.loop-k.auto.k-end, c.loop-k-test.false) in
    sym (ap (every (λ j. eqb (w j) 0)) (sym e) ∙ c.loop-k.invariant)
