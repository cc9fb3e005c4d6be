-- `flow::PointerState::rotate` meets its contract: dp goes on by n modulo 4. Assumes nothing.
use mathlib.Core.Path.{◌≡◌, ap, ◌∙◌}
use native.Mathlib.Omega.{arith}
use lib.IntN.{ℤ}
use mir.Facts.{to_z-of_z}
use Rattle.word.specs.Word.{residue}
use Rattle.word.proofs.Wrapping.{residue_lt}
use Rattle.flow.proofs.PointerState.rotate.Goals as goal

pub overflow_add-result : goal.overflow_add-result
overflow_add-result c =
    let part : c.modulo_4.result ≡ residue c.args.n 4 = c.modulo_4.ensures ∙ ap (λ (z : ℤ). residue z 4) (to_z-of_z c.ranges.n) in
    record { fits = omega (arith, part, residue_lt c.args.n 4 (omega arith)) }
