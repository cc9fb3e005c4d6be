-- `text::number::positive` meets its contract: a value below 2^63 is kept by the cast.
-- Assumes nothing.
use Rattle.std.specs.Prelude.{Ok, Err, pos, ◌-◌, ◌^◌}
use mathlib.Core.Path.{sym, ap, ◌∙◌}
use native.Mathlib.Omega.{arith}
use mir.Syntax.{w64}
use mir.ValLaws.{to_z_pos}
use Rattle.std.proofs.lemmas.Result.{err_from_is_err_and}
use Rattle.text.proofs.NumberLaws.{magnitude_le, with_sign, signed_is, pos_range}
use Rattle.text.proofs.number.positive.Goals as goal

pub returns-in_err-n : goal.returns-in_err-n
returns-in_err-n c =
    let p = err_from_is_err_and c.from_residual.result c.from_residual.ensures.1 in
    p.1 ∙ ap Err p.2 ∙ ap (with_sign pos) (sym c.in_err-n.was ∙ c.magnitude.ensures) ∙ signed_is pos c.args.s.now (2 ^ 63 - 1) pos_range

pub overflow_cast-result : goal.overflow_cast-result
overflow_cast-result c =
    let h = magnitude_le (2 ^ 63 - 1) c.args.s.now c.in_ok-n.n (sym c.magnitude.ensures ∙ c.in_ok-n.was) in
    record { sfits = omega arith }

pub returns : goal.returns
returns c =
    let h = magnitude_le (2 ^ 63 - 1) c.args.s.now c.in_ok-n.n (sym c.magnitude.ensures ∙ c.in_ok-n.was) in
    ap Ok (to_z_pos w64 c.in_ok-n.n (omega arith))
    ∙ ap (with_sign pos) (sym c.in_ok-n.was ∙ c.magnitude.ensures)
    ∙ signed_is pos c.args.s.now (2 ^ 63 - 1) pos_range
