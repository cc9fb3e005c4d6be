-- `region::explore::visit` meets its contract. The queue has room: the codel has no number, so one of the counted cells is its own. Assumes nothing.
use mathlib.Core.Path.{sym, ◌∙◌}
use Prim.Native.Nat.{◌*◌}
use native.Mathlib.Omega.{arith}
use borrow.Author.Rules.{rules}
use Rattle.region.specs.Steps.{kept, pushed, unnumbered}
use Rattle.region.proofs.TallyLaws.{tally_some}
use Rattle.region.proofs.explore.visit.Goals as goal

pub returns-then-outside-j : goal.returns-then-outside-j
returns-then-outside-j c = kept (λ h _ _. omega (arith, h, c.if-outside-j.true))

pub returns-then-map-j-ne-MARK : goal.returns-then-map-j-ne-MARK
returns-then-map-j-ne-MARK c = kept (λ _ e _. c.if-map-j-ne-MARK.true e)

pub returns-then-codel_colour-colour : goal.returns-then-codel_colour-colour
returns-then-codel_colour-colour c = kept (λ _ _ e. c.if-codel_colour-colour.true (c.codel_colour.ensures ∙ e))

pub bounds-work-tail : goal.bounds-work-tail
bounds-work-tail c =
    let the-args = c.args in
    let the-if2 = c.if-map-j-ne-MARK in
    omega (arith, tally_some unnumbered (the-args.grid.shape.rows * the-args.grid.shape.cols) the-args.map.now the-args.j (search rules) (search rules) the-if2.false)

pub returns : goal.returns
returns c = pushed (search rules) c.if-map-j-ne-MARK.false (sym c.codel_colour.ensures ∙ c.if-codel_colour-colour.false)
