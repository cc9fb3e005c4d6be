-- `colour::label::put_name` meets its contract: black, white, or a lightness and a hue one after the other.
-- Assumes nothing.
use Prim.Native.Nat.{◌/◌}
use native.Mathlib.Omega.{arith}
use borrow.Author.Tests.{eq-eqb, ne_eqb}
use Rattle.colour.specs.Label.{name}
use Rattle.base.proofs.Over.{put_put}
use Rattle.colour.proofs.LabelLaws.{lightness_length}
use Rattle.colour.proofs.label.put_name.Goals as goal

pub returns-then-colour-eq-BLACK : goal.returns-then-colour-eq-BLACK
unfolding name
returns-then-colour-eq-BLACK c = rw (eq-eqb _ _ c.if-colour-eq-BLACK.true) c.put_word.ensures

pub returns-then-colour-eq-WHITE : goal.returns-then-colour-eq-WHITE
unfolding name
returns-then-colour-eq-WHITE c = rw (ne_eqb _ _ c.if-colour-eq-BLACK.false, eq-eqb _ _ c.if-colour-eq-WHITE.true) c.put_word-then-colour-eq-WHITE.ensures

pub returns : goal.returns
unfolding name
returns c =
    let l = lightness_length (c.args.colour / 6) in
    rw (ne_eqb _ _ c.if-colour-eq-BLACK.false, ne_eqb _ _ c.if-colour-eq-WHITE.false)
    (put_put (omega arith) c.put_lightness-at.ensures c.put_hue.ensures)
