use mathlib.Core.Path.{◌≡◌, sym, ap, ◌∙◌}
use native.Mathlib.Omega.{arith}
use Rattle.interpreter.specs.Forever.{onward}
use Rattle.interpreter.specs.Table.{every}
use Rattle.interpreter.proofs.ValidLaws.{every_none, every_more, every_not}
use Rattle.interpreter.proofs.endless.all_onward.Goals as goal

pub loop-i-init : goal.loop-i-init
loop-i-init c = every_none _

pub onward-requires : goal.onward-requires
onward-requires c =
    let the-pre = c.args.table.good in (
      omega (arith, the-pre.few, c.loop-i-test.true),
      omega (arith, the-pre.rows_fit, c.loop-i-test.true),
      omega (arith, the-pre.exits_fit, c.loop-i-test.true),
    )

pub returns-then-not-onward : goal.returns-then-not-onward
returns-then-not-onward c =
    let the-args = c.args in
    let the-loop = c.loop-i in
    let on = onward the-args.table.rows.now the-args.table.exits.now in
    sym (every_not on the-loop.i the-args.table.n (omega arith) (sym c.onward.ensures ∙ c.if-not-onward.true))

pub loop-i-preserved : goal.loop-i-preserved
loop-i-preserved c =
    let the-args = c.args in
    let the-loop = c.loop-i in
    let on = onward the-args.table.rows.now the-args.table.exits.now in
    every_more on the-loop.i (sym c.onward.ensures ∙ c.if-not-onward.false) the-loop.invariant

pub returns : goal.returns
returns c =
    let the-args = c.args in
    let on = onward the-args.table.rows.now the-args.table.exits.now in
    let e : c.loop-i.i ≡ the-args.table.n = omega (arith, c.loop-i.auto.i-end, c.loop-i-test.false) in
    sym (ap (every on) (sym e) ∙ c.loop-i.invariant)
