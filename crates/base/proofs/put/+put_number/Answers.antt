use mathlib.Core.Path.{◌∙◌, ap}
use mathlib.Core.List.{[], ◌∷◌}
use native.Mathlib.Omega.{arith}
use lib.ListN.{length, length-append}
use Rattle.base.specs.Text.{decimal}
use Rattle.base.proofs.Over.{put_put, put_length}
use Rattle.base.proofs.Decimal.{decimal_small, decimal_more}
use Prim.Native.Nat.{◌+◌, ◌/◌, ◌%◌}
use Rattle.base.proofs.put.+put_number.Goals as goal

pub put_digit-requires : goal.put_digit-requires
put_digit-requires t c =
    let e = ap length (decimal_small c.args.n c.if-n-lt10.true) in
    (c.if-n-lt10.true, omega (arith, e, c.requires))

pub returns-then-n-lt10 : goal.returns-then-n-lt10
returns-then-n-lt10 t c = rw (decimal_small c.args.n c.if-n-lt10.true) c.put_digit.ensures

pub put_number-next-requires : goal.put_number-next-requires
put_number-next-requires t c =
    let n = c.args.n in
    let e = ap length (decimal_more n c.if-n-lt10.false) ∙ length-append (decimal (n / 10)) ((48 + n % 10) ∷ []) in
    (omega (arith, c.if-n-lt10.false), record { enough = omega (arith, e, c.requires.enough) })

pub put_digit-requires-2 : goal.put_digit-requires-2
put_digit-requires-2 t c =
    let n = c.args.n in
    let e = ap length (decimal_more n c.if-n-lt10.false) ∙ length-append (decimal (n / 10)) ((48 + n % 10) ∷ []) in
    let p = c.put_number-next.ensures in
    (omega arith, omega (arith, e, c.requires.enough, p.next, put_length (omega (arith, e, c.requires.enough)) p))

pub returns : goal.returns
returns t c =
    let n = c.args.n in
    let e = ap length (decimal_more n c.if-n-lt10.false) ∙ length-append (decimal (n / 10)) ((48 + n % 10) ∷ []) in
    rw (decimal_more n c.if-n-lt10.false)
    (put_put (omega (arith, e, c.requires.enough)) c.put_number-next.ensures c.put_digit-2.ensures)
