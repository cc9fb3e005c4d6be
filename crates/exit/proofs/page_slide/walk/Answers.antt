use mathlib.Core.Path.{sym, subst, ◌∙◌}
use native.Mathlib.Omega.{arith}
use Rattle.base.specs.Decides.{Decides}
use Rattle.exit.proofs.Watching.{noted_looks, watch_begins, met_again, walks_lands, looks_most, next_most, watch_turns, watch_moves}
use Rattle.exit.proofs.page_slide.walk.Goals as goal

pub slide-init : goal.slide-init
slide-init c =
    watch_begins c.requires.0 c.requires.1 c.begun-watch.ensures

pub noted-watch-requires : goal.noted-watch-requires
noted-watch-requires c =
    let S = c.slide.invariant in
    let few = c.args.grid.framed.sound.few in
    (omega (arith, looks_most S, few), omega (arith, next_most S, few))

pub slide-smaller-in-Shut : goal.slide-smaller-in-Shut
slide-smaller-in-Shut c =
    let S = c.slide.invariant in
    omega (arith, looks_most S, noted_looks c.noted-watch.ensures)

pub slide-preserved-in-Shut : goal.slide-preserved-in-Shut
slide-preserved-in-Shut c =
    watch_turns c.slide.invariant (subst (Decides _) c.if-meets.false c.meets.ensures) c.noted-watch.ensures
    (sym c.look.ensures ∙ c.in-Shut.is)
    c.turned-state.ensures

pub slide-smaller : goal.slide-smaller
slide-smaller c =
    let S = c.slide.invariant in
    omega (arith, looks_most S, noted_looks c.noted-watch.ensures)

pub slide-preserved : goal.slide-preserved
slide-preserved c =
    watch_moves c.slide.invariant (subst (Decides _) c.if-meets.false c.meets.ensures) c.noted-watch.ensures
    (sym c.look.ensures ∙ c.in-White.is)

pub returns-then-meets : goal.returns-then-meets
returns-then-meets c = met_again c.slide.invariant (subst (Decides _) c.if-meets.true c.meets.ensures)

pub returns-in-Coloured : goal.returns-in-Coloured
returns-in-Coloured c =
    walks_lands c.slide.invariant c.noted-watch.ensures
    (sym c.look.ensures ∙ c.in-Coloured.is)
