use native.Mathlib.Omega.{arith}
use Rattle.region.proofs.Spreading.{spread_more}
use Rattle.region.proofs.explore.expand.Goals as goal

pub loop-way-preserved : goal.loop-way-preserved
loop-way-preserved c =
    let the-loop-test = c.loop-way-test in
    let the-loop = c.loop-way in
    let the-neighbour = c.neighbour-j in
    let the-pre = c.requires in
    let the-codel-colour = c.codel_colour-colour in
    let the-visit = c.visit-end in
    spread_more the-loop.invariant the-neighbour.ensures (omega (arith, the-pre.number_lt_unnumbered)) the-pre.i_bound the-pre.room.map_room the-pre.room.work_room
    the-codel-colour.ensures the-visit.ensures
