-- `visits::counting::count_visits` meets its contract. Before the first step region 0 has 1, and the others 0. Assumes nothing.
use mathlib.Core.Path.{refl, ◌∙◌}
use lib.ListN.{length-set}
use Rattle.machine.specs.Machine.{given}
use Rattle.machine.specs.Held.{slices}
use Rattle.visits.proofs.Starting.{countable, counted}
use Rattle.visits.proofs.counting.count_visits.Goals as goal

pub slice_bounds-run_observed-end : goal.slice_bounds-run_observed-end
slice_bounds-run_observed-end c = refl

pub run_observed-requires : goal.run_observed-requires
run_observed-requires c =
    let f = c.fill in
    let p = c.requires in
    record {
      can_count = countable c.args.table.n c.args.visits.now f.new.d c.args.table.good.some p.n_in_bounds.0 f.ensures c.args.terms.limit p.n_in_bounds.1;
    }

pub shape_of-visits : goal.shape_of-visits
shape_of-visits c =
    let f = c.fill in
    c.run_observed.auto.visits ∙ length-set f.new.d 0 _ ∙ f.auto.d

pub returns : goal.returns
returns c =
    let f = c.fill in
    let p = c.requires in record {
      started = c.run_observed.ensures.started;
      counted = counted c.args.table.n c.args.visits.now f.new.d c.args.table.good.some p.n_in_bounds.0 f.ensures (given c.args.terms c.args.input.now) (slices c.args.stack.now c.args.kinds.now c.args.values.now) c.args.table.good (c.run_observed.auto.visits ∙ length-set f.new.d 0 _ ∙ f.auto.d) c.run_observed.ensures.observed_all;
    }
