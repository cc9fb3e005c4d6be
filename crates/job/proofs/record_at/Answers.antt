-- `job::record_at` meets its contract: where the length and the kind are not those of a record that fits, none stands there.
-- Assumes nothing.
use native.Mathlib.Omega.{arith}
use Rattle.job.proofs.Records.{too_short, must, stands}
use Rattle.job.proofs.record_at.Goals as goal

pub returns-then-left-lt6 : goal.returns-then-left-lt6
returns-then-left-lt6 c = λ body rest h e. let a = c.args in too_short a.job.now a.at a.kind c.if-left-lt6.true body rest e

pub returns-then-told-kind : goal.returns-then-told-kind
returns-then-told-kind c = λ body rest h e.
    c.if-told-kind.true (must _ _ _ _ _ c.requires.1 c.number_at-size.ensures c.number_at-told.ensures body rest h c.requires.0 e).0

pub returns-then-left-size : goal.returns-then-left-size
returns-then-left-size c = λ body rest h e.
    let m = must _ _ _ _ _ c.requires.1 c.number_at-size.ensures c.number_at-told.ensures body rest h c.requires.0 e in
    omega (arith, m.1, c.if-left-size.true)

pub returns : goal.returns
returns c =
    stands _ _ _ _ _ c.requires.1 c.number_at-size.ensures c.number_at-told.ensures c.if-told-kind.false
    (omega (arith, c.if-left-size.false, c.if-left-lt6.false, c.requires.0))
