-- `interpreter::validity::wrong_exit` meets its contract. The table's `target_of` says the target; 0 reads as target 0, which is below n. Assumes nothing.
use mathlib.Core.Path.{refl, ap}
use native.Mathlib.Omega.{arith}
use borrow.Author.Tests.{lt-ltb, le-ltb, lt-leb}
use lib.Dec.{leb}
use Rattle.interpreter.proofs.validity.wrong_exit.Goals as goal

pub returns-then-largest-w : goal.returns-then-largest-w
returns-then-largest-w c = rw (lt-ltb c.args.largest c.args.w c.if-largest-w.true) refl

pub returns-then-w-eq0 : goal.returns-then-w-eq0
returns-then-w-eq0 c =
    let the-args = c.args in
    rw (c.if-w-eq0.true, le-ltb the-args.largest 0 (omega arith), lt-leb the-args.n 0 (omega arith)) refl

pub returns : goal.returns
returns c =
    let the-args = c.args in
    let the-if1 = c.if-largest-w in
    rw (le-ltb the-args.largest the-args.w the-if1.false) (ap (leb the-args.n) c.target_of.ensures)
