-- `trace::put_trace` meets its contract: the first moves, how many more there are, and the end. Assumes nothing.
use mathlib.Core.Path.{refl, sym, subst}
use Prim.Native.Nat.{◌+◌, ◌≤◌}
use native.Mathlib.Omega.{arith}
use lib.IntN.{pos}
use lib.ListN.{length, replicate}
use Rattle.machine.specs.Machine.{Given, given}
use Rattle.machine.specs.Held.{Slices, slices}
use Rattle.machine.proofs.Only.{AsLong}
use Rattle.report.proofs.Writing.{wrote_room}
use Rattle.trace.specs.Told.{Tellable}
use Rattle.trace.proofs.Ending.{tellable, few, inside, ends}
use Rattle.trace.proofs.put_trace.Goals as goal

-- the slices in which the moves are made again
abbrev again : Slices
again = slices (replicate 256 (pos 0)) (replicate 256 0) (replicate 256 (pos 0))

pub put_moves-told-requires : goal.put_moves-told-requires
put_moves-told-requires c =
    let what : Given = given c.args.terms c.args.input.now in
    let held : Slices = slices c.args.stack.now c.args.kinds.now c.args.values.now in
    let long : AsLong again held = record { stack = sym c.requires.sized.0; kinds = sym c.requires.sized.1; values = sym c.requires.sized.2 } in
    subst (Tellable c.args.table.n c.args.table.rows.now c.args.table.exits.now what again (length c.args.out.now)) (sym c.lines_of-shown.ensures) (tellable c.requires long)

pub overflow_sub-steps : goal.overflow_sub-steps
overflow_sub-steps c = omega (arith, c.lines_of-shown.ensures)

pub put_hidden-hidden-requires : goal.put_hidden-hidden-requires
put_hidden-hidden-requires c =
    let left : c.put_moves-told.result + 6056 ≤ length c.put_moves-told.new.out =
    wrote_room 6056 c.put_moves-told.ensures.wrote (omega (arith, c.lines_of-shown.ensures, c.requires.roomy)) in
    omega (arith, left)

pub put_ended-requires : goal.put_ended-requires
put_ended-requires c =
    let left : c.put_moves-told.result + 6056 ≤ length c.put_moves-told.new.out =
    wrote_room 6056 c.put_moves-told.ensures.wrote (omega (arith, c.lines_of-shown.ensures, c.requires.roomy)) in
    let e = c.args.e in record {
      has_label = c.requires.labelled e.at.region c.requires.inside;
      inside = inside c.requires;
      outputs_bound = (omega (arith, few c.requires, c.requires.sized.1), wrote_room 6000 c.put_hidden-hidden.ensures left);
    }

pub returns : goal.returns
returns c =
    let held : Slices = slices c.args.stack.now c.args.kinds.now c.args.values.now in
    let long : AsLong again held = record { stack = sym c.requires.sized.0; kinds = sym c.requires.sized.1; values = sym c.requires.sized.2 } in
    ends c.requires long refl c.lines_of-shown.ensures c.put_moves-told.ensures c.put_hidden-hidden.ensures c.put_ended.ensures
