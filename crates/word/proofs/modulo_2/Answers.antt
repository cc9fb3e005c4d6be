-- `word::modulo_2` meets its contract: the residue of the 64 bits is that of the number. Assumes nothing.
use Rattle.std.proofs.Common.{ℕ, ◌%◌, ◌^◌, ℤ, ap, ◌∙◌, to_z-of_z}
use Rattle.word.specs.Word.{residue}
use Rattle.word.proofs.Wrapping.{residue_2}
use Rattle.word.proofs.modulo_2.Goals as goal

pub returns : goal.returns
returns c =
    ap (λ (k : ℕ). k % 2) c.bits.ensures
    ∙ ap (λ (z : ℤ). residue z (2 ^ 64) % 2) (to_z-of_z c.ranges.n)
    ∙ residue_2 c.args.n
