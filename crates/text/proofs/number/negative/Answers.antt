-- `text::number::negative` meets its contract: -n is -1 - (n - 1), which fits down to -2^63.
-- Assumes nothing.
use Rattle.std.specs.Prelude.{Ok, Err, ℕ, negsuc, ℤ, ◌-◌, ◌^◌}
use mathlib.Core.Path.{sym, ap, ◌∙◌}
use native.Mathlib.Omega.{arith}
use mir.Syntax.{w64}
use mir.Val.{to_z, of_z}
use mir.ValLaws.{to_z-of_z}
use Rattle.text.specs.Number.{opposite}
use Rattle.std.proofs.lemmas.Result.{err_from_is_err_and}
use Rattle.text.proofs.NumberLaws.{magnitude_le, with_sign, signed_is, neg_range, minus_one, below_zero}
use Rattle.text.proofs.number.negative.Goals as goal

pub returns-in_err-n : goal.returns-in_err-n
returns-in_err-n c =
    let p = err_from_is_err_and c.from_residual.result c.from_residual.ensures.1 in
    p.1 ∙ ap Err p.2 ∙ ap (with_sign opposite) (sym c.in_err-n.was ∙ c.magnitude.ensures) ∙ signed_is opposite c.args.s.now (2 ^ 63) neg_range

pub returns-then-n-eq0 : goal.returns-then-n-eq0
returns-then-n-eq0 c =
    ap (λ (n : ℕ). Ok (opposite n)) (sym c.if-n-eq0.true)
    ∙ ap (with_sign opposite) (sym c.in_ok-n.was ∙ c.magnitude.ensures)
    ∙ signed_is opposite c.args.s.now (2 ^ 63) neg_range

pub overflow_cast-result : goal.overflow_cast-result
overflow_cast-result c =
    let h = magnitude_le (2 ^ 63) c.args.s.now c.in_ok-n.n (sym c.magnitude.ensures ∙ c.in_ok-n.was) in
    record { sfits = omega arith }

pub returns : goal.returns
returns c =
    let n = c.in_ok-n.n in
    let h = magnitude_le (2 ^ 63) c.args.s.now n (sym c.magnitude.ensures ∙ c.in_ok-n.was) in
    ap (λ (z : ℤ). Ok (to_z w64 (of_z w64 z))) (minus_one (n - 1) (omega arith))
    ∙ ap Ok (to_z-of_z w64 (negsuc (n - 1)) (record { sfits = omega arith }) ∙ below_zero n c.if-n-eq0.false)
    ∙ ap (with_sign opposite) (sym c.in_ok-n.was ∙ c.magnitude.ensures)
    ∙ signed_is opposite c.args.s.now (2 ^ 63) neg_range
