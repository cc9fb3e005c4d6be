-- `cfg::filling::fill_table` meets its contract: the stages put together (`Stages`).
-- Assumes nothing.
use Rattle.std.proofs.Common.{rules}
use mathlib.Core.Path.{◌∙◌}
use native.Mathlib.Omega.{arith}
use Rattle.cfg.proofs.Stages.{mapped, ready, builds}
use Rattle.region.proofs.MapLaws.{map_few}
use Rattle.cfg.proofs.filling.fill_table.Goals as goal

pub leave_by-requires : goal.leave_by-requires
leave_by-requires c =
    let the-begin = c.begin-n in
    let the-pre = c.requires in
    rw (c.args.grid.framed.rows_are, c.args.grid.framed.cols_are) (mapped the-begin.ensures _ the-pre.exits_long)

pub search-requires : goal.search-requires
search-requires c =
    let the-begin = c.begin-n in
    let the-pre = c.requires in
    let the-leave-by = c.leave_by in
    ready the-begin.ensures (rw (c.args.grid.framed.rows_are, c.args.grid.framed.cols_are, the-pre.exits_long) at the-leave-by.ensures) (the-leave-by.auto.best ∙ the-pre.exits_long) (the-begin.auto.work ∙ the-pre.work_long)

pub keep_nodes-requires : goal.keep_nodes-requires
keep_nodes-requires c =
    let the-begin = c.begin-n in
    let the-search = c.search in
    let the-leave-by = c.leave_by in
    let the-pre = c.requires in
    let few = map_few _ _ _ the-begin.ensures.regions in
    record { n_in_bounds = omega (arith, the-search.auto.rows, the-begin.ensures.rows_long); n_in_bounds_2 = omega (arith, the-search.auto.exits, the-leave-by.auto.best, the-pre.exits_long); n_bound = omega (arith, the-pre.sound.few) }

pub returns : goal.returns
returns c =
    let the-begin = c.begin-n in
    let the-pre = c.requires in
    let the-leave-by = c.leave_by in
    let the-search = c.search in
    let the-keep-nodes = c.keep_nodes in
    let the-args = c.args in
    builds the-begin.ensures (rw (c.args.grid.framed.rows_are, c.args.grid.framed.cols_are, the-pre.exits_long) at the-leave-by.ensures) the-search.ensures the-keep-nodes.ensures
    (the-keep-nodes.auto.rows ∙ the-search.auto.rows ∙ the-begin.ensures.rows_long)
    (the-keep-nodes.auto.exits ∙ the-search.auto.exits ∙ the-leave-by.auto.best ∙ the-pre.exits_long)
    (let l = the-search.auto.work ∙ the-begin.auto.work ∙ the-pre.work_long in rw (← l) (search rules))
