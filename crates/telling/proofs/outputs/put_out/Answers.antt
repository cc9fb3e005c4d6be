-- `telling::outputs::put_out` meets its contract: the first new output, where there is one.
-- Assumes nothing.
use native.Mathlib.Omega.{arith}
use lib.IntN.{pos}
use borrow.Author.Rules.{rules}
use lib.ListN.{get_or}
use mir.Syntax.{w64}
use mir.ValLaws.{to_z-of_z}
use Rattle.report.proofs.Writing.{put_none, wrote, wrote_then}
use Rattle.telling.proofs.OutputLaws.{first_new, no_new}
use Rattle.telling.proofs.outputs.put_out.Goals as goal

pub returns-then-to-from : goal.returns-then-to-from
returns-then-to-from c =
    rw (no_new c.args.kinds.now c.args.values.now c.args.from c.args.to c.if-to-from.true) (wrote (put_none _ _) 27 (omega arith))

pub returns : goal.returns
returns c =
    let a = c.args in
    let h = c.requires.1 in
    let x = get_or a.values.now a.from (pos 0) in
    let e = to_z-of_z w64 x (record { sfits = search rules }) in
    rw (first_new a.kinds.now a.values.now a.from a.to (omega arith))
    (wrote_then (wrote c.put_word-next.ensures 5 (omega arith)) (rw e at c.put_shown.ensures) (omega arith))
