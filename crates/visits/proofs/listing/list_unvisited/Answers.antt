use mathlib.Core.Path.{◌≡◌, sym, ◌∙◌}
use native.Mathlib.Omega.{arith}
use Rattle.visits.proofs.ListingLaws.{none_listed, one_listed, not_listed, all_listed}
use Rattle.visits.proofs.listing.list_unvisited.Goals as goal
use Rattle.visits.proofs.listing.list_unvisited.Goals.{then-never_entered, else-never_entered}

pub loop-i-init : goal.loop-i-init
loop-i-init c = none_listed _ _

pub loop-i-preserved : goal.loop-i-preserved
loop-i-preserved c =
    let the-loop = c.loop-i in
    let the-test = c.never_entered in
    elim c.if-never_entered.branch [
      | then-never_entered w ↦ rw (w.unvisited-is, w.listed-is) (one_listed the-loop.invariant (sym the-test.ensures ∙ w.if-never_entered.true) (omega arith))
      | else-never_entered w ↦ rw (w.unvisited-is, w.listed-is) (not_listed the-loop.invariant (sym the-test.ensures ∙ w.if-never_entered.false))
    ]

pub returns : goal.returns
returns c =
    let the-loop = c.loop-i in
    let the-args = c.args in
    let e : the-loop.i ≡ the-args.n = omega (arith, the-loop.auto.i-end, c.loop-i-test.false) in
    let L = rw e at the-loop.invariant in
    rw c.fill.ensures (all_listed (omega arith) L)
