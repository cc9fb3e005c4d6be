-- `word::modulo_4` meets its contract: the residue of the 64 bits is that of the number. Assumes nothing.
use Rattle.std.proofs.Common.{ℕ, ◌%◌, ◌^◌, ℤ, ap, ◌∙◌, to_z-of_z}
use Rattle.word.specs.Word.{residue}
use Rattle.word.proofs.Wrapping.{residue_4}
use Rattle.word.proofs.modulo_4.Goals as goal

pub returns : goal.returns
returns c =
    ap (λ (k : ℕ). k % 4) c.bits.ensures
    ∙ ap (λ (z : ℤ). residue z (2 ^ 64) % 4) (to_z-of_z c.ranges.n)
    ∙ residue_4 c.args.n
