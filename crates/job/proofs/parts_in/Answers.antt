-- `job::parts_in` meets its contract: each test that refuses shows that no content has that encoding, and where all are
-- passed the parts are what the three records say. Assumes nothing.
use mathlib.Core.Path.{refl}
use native.Mathlib.Omega.{arith}
use Rattle.job.proofs.Jobs.{starts, picture_few, settings_few, input_few, after_first, after_second, first_end, second_end, third_end, mode_at, reads}
use Rattle.job.proofs.parts_in.Goals as goal

pub returns-in_err-first : goal.returns-in_err-first
returns-in_err-first c =
    rw c.from_residual.ensures (λ s j. c.in_err-first.ensures _ _ (picture_few j) (starts j))

pub returns-then-first-lt12 : goal.returns-then-first-lt12
returns-then-first-lt12 c = λ s j. omega (arith, first_end j c.in_ok-first.ensures)

pub returns-in_err-second : goal.returns-in_err-second
returns-in_err-second c =
    rw c.from_residual-in_err-second.ensures (λ s j. c.in_err-second.ensures _ _ (settings_few j) (after_first j c.in_ok-first.ensures))

pub returns-then-second-first : goal.returns-then-second-first
returns-then-second-first c = λ s j. c.if-second-first.true (second_end j c.in_ok-first.ensures c.in_ok-second.ensures)

pub returns-in_err-third : goal.returns-in_err-third
returns-in_err-third c =
    rw c.from_residual-in_err-third.ensures
    (λ s j. c.in_err-third.ensures _ _ (input_few j) (after_second j c.in_ok-first.ensures c.in_ok-second.ensures))

pub returns-then-third-job : goal.returns-then-third-job
returns-then-third-job c = λ s j.
    c.if-third-job.true (third_end j c.in_ok-first.ensures c.in_ok-second.ensures c.in_ok-third.ensures)

pub returns-then-mode-gt1 : goal.returns-then-mode-gt1
returns-then-mode-gt1 c = λ s j. omega (arith, mode_at j c.in_ok-first.ensures c.in_ok-second.ensures)

pub returns : goal.returns
returns c =
    reads (omega arith) c.in_ok-first.ensures c.in_ok-second.ensures c.in_ok-third.ensures c.if-first-lt12.false c.if-second-first.false
    c.if-third-job.false refl c.if-mode-gt1.false c.parts_of.ensures
