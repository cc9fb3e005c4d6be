-- `telling::outputs::character_of` meets its contract: by its sign, its size and the test of a scalar.
-- Assumes nothing.
use mathlib.Core.Path.{◌≡◌, sym, ◌∙◌}
use lib.IntN.{nat_abs}
use mir.Syntax.{w64}
use mir.ValLaws.{to_z-of_z}
use Rattle.word.proofs.Signed.{NonNeg, is_neg, is_non_neg}
use Rattle.telling.proofs.CharLaws.{no_char_below, no_char_above, no_scalar, a_scalar}
use Rattle.telling.proofs.outputs.character_of.Goals as goal

pub returns-then-v-lt0 : goal.returns-then-v-lt0
returns-then-v-lt0 c = no_char_below (is_neg _ c.ranges.v c.if-v-lt0.true)

pub returns-then-n-gt1114111 : goal.returns-then-n-gt1114111
returns-then-n-gt1114111 c =
    let not-below : NonNeg c.args.v = is_non_neg _ c.ranges.v c.if-v-lt0.false in
    let size_is : c.abs-n.result ≡ nat_abs c.args.v = rw (to_z-of_z w64 c.args.v c.ranges.v) at c.abs-n.ensures in
    no_char_above not-below size_is c.if-n-gt1114111.true

pub returns-then-is_scalar : goal.returns-then-is_scalar
returns-then-is_scalar c =
    let not-below : NonNeg c.args.v = is_non_neg _ c.ranges.v c.if-v-lt0.false in
    let size_is : c.abs-n.result ≡ nat_abs c.args.v = rw (to_z-of_z w64 c.args.v c.ranges.v) at c.abs-n.ensures in
    a_scalar not-below size_is (sym c.is_scalar.ensures ∙ c.if-is_scalar.true)

pub returns : goal.returns
returns c =
    let not-below : NonNeg c.args.v = is_non_neg _ c.ranges.v c.if-v-lt0.false in
    let size_is : c.abs-n.result ≡ nat_abs c.args.v = rw (to_z-of_z w64 c.args.v c.ranges.v) at c.abs-n.ensures in
    no_scalar not-below size_is (sym c.is_scalar.ensures ∙ c.if-is_scalar.false)
