-- `word::low32` meets its contract: a residue residue 2^32 fits 32 bits. Assumes nothing.
use Rattle.std.proofs.Common.{◌≡◌, ◌^◌, ℤ, ap, ◌∙◌, arith, to_z-of_z}
use Rattle.word.specs.Word.{residue}
use Rattle.word.proofs.Wrapping.{residue_lt}
use Rattle.word.proofs.low32.Goals as goal

pub overflow_cast-result : goal.overflow_cast-result
overflow_cast-result c =
    let is : c.residue.result ≡ residue c.args.x (2 ^ 32) = c.residue.ensures ∙ ap (λ (z : ℤ). residue z (2 ^ 32)) (to_z-of_z c.ranges.x) in
    omega (arith, is, residue_lt c.args.x (2 ^ 32) (omega arith))
