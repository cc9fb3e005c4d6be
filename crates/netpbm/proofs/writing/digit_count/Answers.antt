-- `netpbm::writing::digit_count` meets its contract: a tenth of a number has one digit less.
-- Assumes nothing.
use mathlib.Core.Path.{sym}
use Prim.Native.Nat.{◌/◌}
use native.Mathlib.Omega.{arith}
use Rattle.netpbm.proofs.WriteLaws.{one_digit, one_more}
use Rattle.netpbm.proofs.writing.digit_count.Goals as goal

pub returns-then-n-lt10 : goal.returns-then-n-lt10
returns-then-n-lt10 c = sym (one_digit _ c.if-n-lt10.true)

pub returns-then-n-lt100 : goal.returns-then-n-lt100
returns-then-n-lt100 c =
    let the-args = c.args in
    let n = the-args.n in omega (arith, one_more n c.if-n-lt10.false, one_digit (n / 10) (omega arith))

pub returns-then-n-lt1000 : goal.returns-then-n-lt1000
returns-then-n-lt1000 c =
    let the-args = c.args in
    let the-if1 = c.if-n-lt10 in
    let n = the-args.n in omega (arith, one_more n the-if1.false, one_more (n / 10) (omega arith), one_digit (n / 10 / 10) (omega arith))

pub returns : goal.returns
returns c =
    let the-args = c.args in
    let the-if1 = c.if-n-lt10 in
    let n = the-args.n in omega (arith, one_more n the-if1.false, one_more (n / 10) (omega arith), one_more (n / 10 / 10) (omega arith), one_digit (n / 10 / 10 / 10) (omega arith))
