use mathlib.Core.Path.{◌∙◌}
use native.Mathlib.Omega.{arith}
use Rattle.cfg.proofs.Queueing.{length_after}
use Rattle.cfg.proofs.Searching.{queue_first, first_low, search_start, search_taken, search_turn, search_end, work_long}
use Rattle.cfg.proofs.search.search.Goals as goal

pub pair_table-pairs-requires : goal.pair_table-pairs-requires
pair_table-pairs-requires c = tt

pub visit-tail-requires : goal.visit-tail-requires
visit-tail-requires c =
    record { room = (queue_first {e = c.args.edition} c.requires).room; q_in_bounds = first_low c.requires }

pub loop-head-init : goal.loop-head-init
loop-head-init c =
    let the-pre = c.requires in
    let the-visit = c.visit-tail in
    search_start the-pre the-visit.ensures

pub bounds-work-head : goal.bounds-work-head
bounds-work-head c =
    let the-loop = c.loop-head in
    omega (arith, c.loop-head-test.true, the-loop.invariant.queue.room.free)

pub wide-r-requires : goal.wide-r-requires
wide-r-requires c = tt

pub try_states-tail-requires : goal.try_states-tail-requires
try_states-tail-requires c =
    let the-wide = c.wide-r in
    let the-pre = c.requires in
    let the-visit = c.visit-tail in
    let the-pair-table = c.pair_table-pairs in
    let the-loop = c.loop-head in
    let the-loop-test = c.loop-head-test in
    record { taken = rw the-wide.ensures (search_taken the-pre the-visit.ensures the-loop.invariant the-loop-test.true); queue = the-loop.invariant.queue }

pub loop-head-smaller : goal.loop-head-smaller
loop-head-smaller c =
    let the-loop = c.loop-head in
    let the-loop-test = c.loop-head-test in
    let the-pre = c.requires in
    let the-visit = c.visit-tail in
    let l = the-loop.invariant in
    omega (arith, the-loop-test.true, l.queue.room.free, work_long the-pre the-visit.ensures l)

pub loop-head-preserved : goal.loop-head-preserved
loop-head-preserved c =
    let the-pre = c.requires in
    let the-visit = c.visit-tail in
    let the-loop = c.loop-head in
    let the-loop-test = c.loop-head-test in
    let the-wide = c.wide-r in
    let the-try-states = c.try_states-tail in
    search_turn the-pre the-visit.ensures the-loop.invariant the-loop-test.true (rw the-wide.ensures at the-try-states.ensures)

pub shape_of-rows : goal.shape_of-rows
shape_of-rows c =
    let the-visit = c.visit-tail in
    c.loop-head.invariant.rows_length ∙ (length_after the-visit.ensures).0

pub shape_of-exits : goal.shape_of-exits
shape_of-exits c = c.loop-head.invariant.exits_length

pub shape_of-work : goal.shape_of-work
shape_of-work c =
    let the-visit = c.visit-tail in
    c.loop-head.invariant.work_length ∙ (length_after the-visit.ensures).1

pub returns : goal.returns
returns c =
    let the-pre = c.requires in
    let the-visit = c.visit-tail in
    search_end the-pre the-visit.ensures c.loop-head.invariant c.loop-head-test.false
