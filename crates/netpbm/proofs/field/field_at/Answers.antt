-- `netpbm::field::field_at` meets its contract: a gap and digits make a field, and where one is missing there is none.
-- Assumes nothing.
use native.Mathlib.Omega.{arith}
use Rattle.netpbm.proofs.Fields.{field_found, no_gap, no_digits}
use Rattle.netpbm.proofs.field.field_at.Goals as goal

pub returns-then-start-at : goal.returns-then-start-at
returns-then-start-at c = no_gap c.gap_end-start.ensures (omega (arith, c.gap_end-start.ensures.from, c.if-start-at.true))

pub returns-then-number-start : goal.returns-then-number-start
returns-then-number-start c =
    let the-gap-end = c.gap_end-start in
    let the-number-at = c.number_at-number in
    no_digits the-gap-end.ensures the-number-at.ensures (omega (arith, the-number-at.ensures.from, c.if-number-start.true))

pub returns : goal.returns
returns c =
    let the-gap-end = c.gap_end-start in
    let the-number-at = c.number_at-number in
    let the-if1 = c.if-start-at in
    field_found the-gap-end.ensures the-number-at.ensures (λ e. omega (arith, the-if1.false)) (λ e. omega (arith, c.if-number-start.false))
