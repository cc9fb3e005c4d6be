-- `trace::put_step` meets its contract: the stack is told before the step, the rest after it. Assumes nothing.
use mathlib.Core.Path.{sym, ap, subst, ◌∙◌}
use Prim.Native.Nat.{◌≤◌}
use native.Mathlib.Omega.{arith}
use lib.ListN.{length}
use lib.Seq.{length-take-le}
use Rattle.machine.specs.Machine.{Given, given, op_numbered}
use Rattle.machine.specs.Held.{Slices, slices}
use Rattle.std.specs.Prelude.{Ok}
use Rattle.interpreter.specs.Moving.{Stepped}
use Rattle.telling.proofs.PartLaws.{part_size, part_is}
use Rattle.trace.proofs.StepLaws.{part_brief, inside, made, reached, some_by, stepped, line_of}
use Rattle.trace.proofs.put_step.Goals as goal

pub step-requires : goal.step-requires
step-requires c = let p = c.requires in record {
  placed = p.placed;
  judged_in = p.judged_in;
  steps_bound = p.steps_bound.0;
}

pub unwrap-moved-requires : goal.unwrap-moved-requires
unwrap-moved-requires c =
    let what : Given = given c.args.terms c.args.input.now in
    let held : Slices = slices c.args.stack.now c.args.kinds.now c.args.values.now in
    let left : Slices = slices c.step.new.stack c.step.new.kinds c.step.new.values in
    made c.args.table.n c.args.table.rows.now c.args.table.exits.now what held c.args.at left c.step.result c.step.ensures c.requires.goes

pub label_region-named-requires : goal.label_region-named-requires
label_region-named-requires c = (c.requires.has_label, omega arith)

pub instruction_of-requires : goal.instruction_of-requires
instruction_of-requires c =
    let what : Given = given c.args.terms c.args.input.now in
    let held : Slices = slices c.args.stack.now c.args.kinds.now c.args.values.now in
    let left : Slices = slices c.step.new.stack c.step.new.kinds c.step.new.values in
    let gone : Stepped c.args.table.n c.args.table.rows.now c.args.table.exits.now what held c.args.at left (Ok c.unwrap-moved.result) =
    subst (Stepped c.args.table.n c.args.table.rows.now c.args.table.exits.now what held c.args.at left) c.unwrap-moved.ensures c.step.ensures in
    some_by c.args.table.n c.args.table.rows.now c.args.table.exits.now what held c.args.at left gone

pub slice_bounds-put_move-end : goal.slice_bounds-put_move-end
slice_bounds-put_move-end c = sym (length-take-le _ _ c.label_region-named.ensures.0.within)

pub slice_bounds-took-end : goal.slice_bounds-took-end
slice_bounds-took-end c =
    let brief : c.put_stack-size.result ≤ 198 = let w = c.put_stack-size.ensures in omega (arith, part_size w, w.short) in
    let within : c.put_stack-size.result ≤ length c.put_stack-size.new.out = omega (arith, brief, c.put_stack-size.auto.out) in
    within

pub slice_bounds-put_move-end-2 : goal.slice_bounds-put_move-end-2
slice_bounds-put_move-end-2 c =
    let brief : c.put_stack-size.result ≤ 198 = let w = c.put_stack-size.ensures in omega (arith, part_size w, w.short) in
    let within : c.put_stack-size.result ≤ length c.put_stack-size.new.out = omega (arith, brief, c.put_stack-size.auto.out) in
    sym (length-take-le _ _ within)

pub put_move-after-requires : goal.put_move-after-requires
put_move-after-requires c =
    let what : Given = given c.args.terms c.args.input.now in
    let held : Slices = slices c.args.stack.now c.args.kinds.now c.args.values.now in
    let left : Slices = slices c.step.new.stack c.step.new.kinds c.step.new.values in
    let gone : Stepped c.args.table.n c.args.table.rows.now c.args.table.exits.now what held c.args.at left (Ok c.unwrap-moved.result) =
    subst (Stepped c.args.table.n c.args.table.rows.now c.args.table.exits.now what held c.args.at left) c.unwrap-moved.ensures c.step.ensures in
    let brief : c.put_stack-size.result ≤ 198 = let w = c.put_stack-size.ensures in omega (arith, part_size w, w.short) in
    let within : c.put_stack-size.result ≤ length c.put_stack-size.new.out = omega (arith, brief, c.put_stack-size.auto.out) in
    let t = c.label_region-named.ensures in record {
      inside = inside (reached c.args.table.n c.args.table.rows.now c.args.table.exits.now what held c.args.at left gone);
      label_len_bound = ((part_brief _ t.0.within t.1, part_brief _ within brief), c.requires.steps_bound.1);
    }

pub returns : goal.returns
returns c =
    let what : Given = given c.args.terms c.args.input.now in
    let held : Slices = slices c.args.stack.now c.args.kinds.now c.args.values.now in
    let left : Slices = slices c.step.new.stack c.step.new.kinds c.step.new.values in
    let gone : Stepped c.args.table.n c.args.table.rows.now c.args.table.exits.now what held c.args.at left (Ok c.unwrap-moved.result) =
    subst (Stepped c.args.table.n c.args.table.rows.now c.args.table.exits.now what held c.args.at left) c.unwrap-moved.ensures c.step.ensures in
    record {
      stepped = stepped c.args.table.n c.args.table.rows.now c.args.table.exits.now what held c.args.at left gone;
      line =
          rw (line_of c.args.table.n c.args.table.rows.now c.args.table.exits.now what held c.args.at left gone c.label_region-named.ensures.0.is (c.from-op.ensures ∙ ap op_numbered c.instruction_of.ensures) (part_is c.put_stack-size.ensures))
          at c.put_move-after.ensures;
    }
