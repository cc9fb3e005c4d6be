-- `colour::classify::classify` meets its contract: where nothing is refused, what `paint` requires follows from what the tests left; any other answer leaves the list as it was.
-- Assumes nothing.
use native.Mathlib.Omega.{arith}
use lib.ListN.{length}
use Rattle.base.proofs.Sides.{area}
use Rattle.colour.proofs.ClassifyLaws.{Accepted, accepted}
use Rattle.colour.proofs.classify.classify.Goals as goal

pub overflow_mul-height : goal.overflow_mul-height
overflow_mul-height c =
    let done : let a = c.args in Accepted a.pixels.now a.height a.width (length a.colours.now) =
    let a = c.args in
    accepted a.pixels.now a.height a.width a.setting (length a.colours.now) _ (rw c.in_ok-check.was at c.check.ensures) in
    let k = done in record { fits = omega (arith, area k.high k.wide) }

pub paint-requires : goal.paint-requires
paint-requires c =
    let done : let a = c.args in Accepted a.pixels.now a.height a.width (length a.colours.now) =
    let a = c.args in
    accepted a.pixels.now a.height a.width a.setting (length a.colours.now) _ (rw c.in_ok-check.was at c.check.ensures) in
    let k = done in (k.bytes, k.fits)
