-- `cfg::search::queue_way` meets its contract: a constructor of `Queued` for each arm.
-- Assumes nothing.
use mathlib.Core.Path.{◌∙◌}
use Rattle.cfg.specs.Search.{closed, step, astray, glide}
use Rattle.cfg.proofs.Queueing.{at_needs, room_after, length_after}
use Rattle.cfg.proofs.search.queue_way.Goals as goal

pub visit_at-requires : goal.visit_at-requires
visit_at-requires c =
    let the-args = c.args in
    let the-pre = c.requires in
    let a = the-args in
    let needs = at_needs the-pre.grounds the-pre.work_len the-pre.room _ _ _ (rw c.in-Step.is at the-pre.in_grid) c.args.grid.framed.cols_are in
    record { room = needs.0; map_len = needs.1.0; col_in_bounds = needs.1.1.0; col_in_bounds_2 = needs.1.1.1 }

pub visit_at-requires-in-Astray : goal.visit_at-requires-in-Astray
visit_at-requires-in-Astray c =
    let the-args = c.args in
    let the-pre = c.requires in
    let a = the-args in
    let needs = at_needs the-pre.grounds the-pre.work_len the-pre.room _ _ _ (rw c.in-Astray.is at the-pre.in_grid) c.args.grid.framed.cols_are in
    record { room = needs.0; map_len = needs.1.0; col_in_bounds = needs.1.1.0; col_in_bounds_2 = needs.1.1.1 }

pub visit_at-end-requires : goal.visit_at-end-requires
visit_at-end-requires c =
    let the-args = c.args in
    let the-pre = c.requires in
    let a = the-args in
    let needs = at_needs the-pre.grounds the-pre.work_len the-pre.room _ _ _ (rw c.in-Glide.is at the-pre.in_grid).0 c.args.grid.framed.cols_are in
    record { room = needs.0; map_len = needs.1.0; col_in_bounds = needs.1.1.0; col_in_bounds_2 = needs.1.1.1 }

pub visit_at-requires-in-Glide : goal.visit_at-requires-in-Glide
visit_at-requires-in-Glide c =
    let the-visit-at3 = c.visit_at-end in
    let the-pre = c.requires in
    let v = the-visit-at3.ensures in
    let needs = at_needs the-pre.grounds ((length_after v).1 ∙ the-pre.work_len) (room_after (at_needs the-pre.grounds the-pre.work_len the-pre.room _ _ _ (rw c.in-Glide.is at the-pre.in_grid).0 c.args.grid.framed.cols_are).1.1.1 the-pre.room v) _ _ _ (rw c.in-Glide.is at the-pre.in_grid).1 c.args.grid.framed.cols_are in
    record { room = needs.0; map_len = needs.1.0; col_in_bounds = needs.1.1.0; col_in_bounds_2 = needs.1.1.1 }

pub returns-in-Closed : goal.returns-in-Closed
returns-in-Closed c = rw c.in-Closed.is closed

pub returns-in-Step : goal.returns-in-Step
returns-in-Step c =
    let the-pre = c.requires in
    let the-visit-at = c.visit_at in
    rw c.in-Step.is (step (rw c.args.grid.framed.cols_are at the-visit-at.ensures))

pub returns-in-Astray : goal.returns-in-Astray
returns-in-Astray c =
    let the-pre = c.requires in
    let the-visit-at2 = c.visit_at-in-Astray in
    rw c.in-Astray.is (astray (rw c.args.grid.framed.cols_are at the-visit-at2.ensures))

pub returns-in-Glide : goal.returns-in-Glide
returns-in-Glide c =
    let the-pre = c.requires in
    let the-visit-at3 = c.visit_at-end in
    let the-visit-at4 = c.visit_at-in-Glide in
    rw c.in-Glide.is (glide (rw c.args.grid.framed.cols_are at the-visit-at3.ensures) (rw c.args.grid.framed.cols_are at the-visit-at4.ensures))
