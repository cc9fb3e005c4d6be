-- `word::residue` meets its contract. Assumes nothing.
use Rattle.std.proofs.Common.{nat_abs, ap, ◌∙◌, to_z-of_z, w64}
use mir.Facts.{to_z_pos}
use Rattle.word.proofs.Signed.{back}
use Rattle.word.proofs.Wrapping.{euclid_is}
use Rattle.word.proofs.residue.Goals as goal

pub returns : goal.returns
returns c =
    ap nat_abs
    (back c.rem_euclid.result c.rem_euclid.type_inv
    ∙ rw (to_z-of_z c.ranges.b, to_z_pos w64 c.requires.1) at c.rem_euclid.ensures.value
    ∙ euclid_is c.args.b c.args.m)
