use mathlib.Core.Bool.{false}
use mathlib.Core.Path.{◌≡◌, ◌∙◌, sym, subst}
use Prim.Native.Nat.{ℕ}
use native.Mathlib.Omega.{arith}
use lib.ListN.{length, drop}
use Rattle.netpbm.specs.Scan.{past_gap}
use Rattle.netpbm.proofs.Gaps.{gap_on, gap_end, gap_all}
use Rattle.netpbm.proofs.field.gap_end.Goals as goal

pub returns-then-not-goes_on : goal.returns-then-not-goes_on
returns-then-not-goes_on c =
    let the-loop = c.loop-i in
    let the-args = c.args in
    let the-loop-test = c.loop-i-test in
    record { from = omega arith; to = omega arith; is = the-loop.invariant.1.1 ∙ gap_end the-args.file.now the-loop.inside the-loop.i the-loop-test.true (sym c.goes_on.ensures ∙ c.if-not-goes_on.true) }

pub loop-i-preserved : goal.loop-i-preserved
loop-i-preserved c =
    let the-loop = c.loop-i in
    let the-args = c.args in
    let the-loop-test = c.loop-i-test in
    let the-goes-on = c.goes_on in
    (omega arith, (omega arith, the-loop.invariant.1.1 ∙ gap_on the-args.file.now the-loop.inside c.comment_after-inside.result the-loop.i the-loop-test.true (sym the-goes-on.ensures ∙ c.if-not-goes_on.false) c.comment_after-inside.ensures))

pub returns : goal.returns
returns c =
    let file = c.args.file.now in
    let l = c.loop-i in
    let end : l.i ≡ length file = omega arith in
    record {
      from = omega arith;
      to = omega arith;
      is = subst (λ (n : ℕ). past_gap false (drop c.args.at file) ≡ drop n file) end (l.invariant.1.1 ∙ gap_all file l.inside l.i (omega arith));
    }
