-- `flow::PointerState::switch` meets its contract: cc goes on by n modulo 2. Assumes nothing.
use mathlib.Core.Path.{◌≡◌, ap, ◌∙◌}
use native.Mathlib.Omega.{arith}
use lib.IntN.{ℤ}
use mir.Facts.{to_z-of_z}
use Rattle.word.specs.Word.{residue}
use Rattle.word.proofs.Wrapping.{residue_lt}
use Rattle.flow.proofs.PointerState.switch.Goals as goal

pub overflow_add-result : goal.overflow_add-result
overflow_add-result c =
    let part : c.modulo_2.result ≡ residue c.args.n 2 = c.modulo_2.ensures ∙ ap (λ (z : ℤ). residue z 2) (to_z-of_z c.ranges.n) in
    record { fits = omega (arith, part, residue_lt c.args.n 2 (omega arith)) }
