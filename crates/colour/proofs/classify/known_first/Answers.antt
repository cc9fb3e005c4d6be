use mathlib.Core.Path.{◌∙◌, sym, ap}
use Prim.Native.Nat.{◌<◌}
use native.Mathlib.Omega.{arith}
use Rattle.std.specs.Prelude.{is_some}
use Rattle.colour.specs.Classify.{found}
use Rattle.colour.proofs.ClassifyLaws.{length_found}
use Rattle.colour.proofs.FirstUnknown.{goes_on, stops, known_most}
use Rattle.colour.proofs.StretchLaws.{known_through}
use Rattle.colour.proofs.classify.known_first.Goals as goal

pub returns-then-is_none : goal.returns-then-is_none
returns-then-is_none c =
    let fs = found c.args.pixels.now in
    omega (arith, stops fs c.loop-i.i (sym (ap is_some c.found_in.ensures) ∙ c.if-is_none.ensures))

pub loop-i-preserved-then-end-i : goal.loop-i-preserved-then-end-i
loop-i-preserved-then-end-i c =
    let fs = found c.args.pixels.now in
    (omega arith, goes_on fs c.loop-i.i (sym (ap is_some c.found_in.ensures) ∙ c.if-is_none.ensures) c.loop-i.invariant.1)

pub loop-i-preserved : goal.loop-i-preserved
loop-i-preserved c =
    let farther : c.loop-i.i < c.alike-end.result = let d = c.if-end-i.false in omega arith in
    let e = c.alike-end.ensures in
    let h = known_through c.args.pixels.now _ _ e.1 farther (omega (arith, c.requires)) c.loop-i.invariant.1 in
    (omega arith, h)

pub returns : goal.returns
returns c =
    let fs = found c.args.pixels.now in
    omega (arith, known_most fs, length_found c.args.pixels.now c.args.n c.requires)
