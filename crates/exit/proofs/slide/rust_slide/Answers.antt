use mathlib.Core.Path.{sym, ◌∙◌}
use Rattle.exit.proofs.Sliding.{move_less, begins, loses, turns, turns_less, moves, lands}
use Rattle.exit.proofs.slide.rust_slide.Goals as goal

pub slide-init : goal.slide-init
slide-init c = begins c.requires.0 c.requires.1

pub slide-smaller-in-Shut : goal.slide-smaller-in-Shut
slide-smaller-in-Shut c = turns_less c.slide.invariant c.if-turns-eq-LAST_TURN.false c.turned-state.result

pub slide-preserved-in-Shut : goal.slide-preserved-in-Shut
slide-preserved-in-Shut c =
    turns c.slide.invariant c.if-turns-eq-LAST_TURN.false
    (sym c.look.ensures ∙ c.in-Shut.is)
    c.turned-state.ensures

pub slide-smaller : goal.slide-smaller
slide-smaller c =
    move_less _ _ _ _ _ _ _ c.slide.invariant.place
    (sym c.look.ensures ∙ c.in-White.is)

pub slide-preserved : goal.slide-preserved
slide-preserved c =
    moves c.slide.invariant c.if-turns-eq-LAST_TURN.false
    (sym c.look.ensures ∙ c.in-White.is)

pub returns-then-turns-eq-LAST_TURN : goal.returns-then-turns-eq-LAST_TURN
returns-then-turns-eq-LAST_TURN c = loses c.slide.invariant c.if-turns-eq-LAST_TURN.true

pub returns-in-Coloured : goal.returns-in-Coloured
returns-in-Coloured c =
    lands c.slide.invariant c.if-turns-eq-LAST_TURN.false
    (sym c.look.ensures ∙ c.in-Coloured.is)
