use native.Mathlib.Omega.{arith}
use lib.ListN.{length}
use Rattle.base.proofs.Tests.{by_size}
use Rattle.text.proofs.LineLaws.{line_none, line_here, line_more}
use Rattle.text.proofs.input.line_end.Goals as goal

pub returns-then-input-i-eq10 : goal.returns-then-input-i-eq10
returns-then-input-i-eq10 c =
    omega (arith, line_here c.args.input.now c.loop-i.i c.loop-i-test.true c.if-input-i-eq10.true)

pub loop-i-preserved : goal.loop-i-preserved
loop-i-preserved c =
    omega (arith, line_more c.args.input.now c.loop-i.i c.loop-i-test.true c.if-input-i-eq10.false)

pub returns : goal.returns
returns c =
    let s = c.args.input.now in
    by_size c.args.at (length s) (λ h. omega (arith, line_none s c.loop-i.i (omega arith))) (λ h. omega (arith, line_none s c.args.at h))
