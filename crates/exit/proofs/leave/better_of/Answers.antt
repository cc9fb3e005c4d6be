-- `exit::leave::better_of` meets its contract, by the three cases of `better`. Assumes nothing.
use mathlib.Core.Path.{sym, ◌∙◌}
use Rattle.exit.proofs.KeepingLaws.{better_beaten, better_kept, better_new}
use Rattle.exit.proofs.leave.better_of.Goals as goal
use Rattle.exit.proofs.leave.better_of.Goals.{else-map-j-via-then-map-j+else-not-beats_codel, else-map-j-via-else-map-j}

pub returns-then-not-beats_codel : goal.returns-then-not-beats_codel
returns-then-not-beats_codel c = sym (better_kept _ _ _ _ _ _ c.if-map-j.true (sym c.beats_codel.ensures ∙ c.if-not-beats_codel.true))

pub returns : goal.returns
returns c =
    elim c.else-map-j.branch [
      | else-map-j-via-then-map-j+else-not-beats_codel w ↦ sym (better_beaten _ _ _ _ _ _ w.if-map-j.true (sym w.beats_codel.ensures ∙ w.if-not-beats_codel.false))
      | else-map-j-via-else-map-j w ↦ sym (better_new _ _ _ _ _ _ w.if-map-j.false)
    ]
