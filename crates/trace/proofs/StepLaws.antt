-- A step that is told: it is made, what is told lies within the slices, and its line is that of the step. Assumes nothing.
use mathlib.Core.Path.{◌≡◌, refl, sym, ◌∙◌}
use mathlib.Core.List.{List}
use Prim.Native.Nat.{ℕ, ◌+◌, ◌<◌, ◌≤◌}
use native.Mathlib.Omega.{arith}
use lib.ListN.{length, take, drop}
use lib.Seq.{length-take-le}
use Rattle.base.proofs.Clash.{clash}
use Rattle.stack.specs.Stack.{stack_of}
use Rattle.machine.specs.declared.Op.{Op}
use Rattle.machine.specs.declared.Stop.{Stop}
use Rattle.machine.specs.Output.{outs_of}
use Rattle.machine.specs.Machine.{Given}
use Rattle.machine.specs.Held.{Slices}
use Rattle.machine.proofs.Emitting.{outs_length}
use Rattle.interpreter.specs.declared.State.{State}
use Rattle.std.specs.Prelude.{Result, Ok, Err, IsOk}
use Rattle.interpreter.specs.declared.stepping.Moved.{Moved}
use Rattle.interpreter.specs.Table.{op_of}
use Rattle.interpreter.specs.Run.{goes, exit_from, step_of}
use Rattle.interpreter.specs.Outcome.{job_of}
use Rattle.interpreter.specs.Resume.{machine_of, Placed}
use Rattle.interpreter.specs.Moving.{next_of, After, Stepped}
use Rattle.interpreter.proofs.Histories.{step_kept}
use Rattle.interpreter.proofs.StepLaws.{some_exit}
use Rattle.answer.specs.Printing.{label_in}
use Rattle.telling.specs.Words.{stack_text}
use Rattle.telling.specs.Line.{line_with}
use Rattle.telling.specs.Bounds.{Inside}
use Rattle.trace.specs.Told.{step_line, Goes}

-- a part of a list that is no longer than its index
pub part_brief : {n m : ℕ} (d : List ℕ) → n ≤ length d → n ≤ m → length (take n d) ≤ m
part_brief {n} d h k = omega (arith, length-take-le n d h)

pub inside : {n : ℕ} {l : Slices} {at : State} → Placed n l at → Inside at.core (length l.stack) (length l.kinds) (length l.values)
inside p = record {
  deep = p.stands.lies.room;
  told = p.stands.holds.kinds_room;
  given = p.stands.holds.values_room;
  valid = p.stands.valid;
}

module _ (n : ℕ) (rows exits : List ℕ) (g : Given) (l : Slices) (at : State) (l' : Slices) where
  pub made : (r : Result Moved Stop) → Stepped n rows exits g l at l' r → Goes (job_of rows exits g l) (machine_of l at) → IsOk r
  unfolding next_of
  made (Ok m) x y = refl
  made (Err s) x y = let z = x.is ∙ y.1 in clash cc

  module _ {at' : State} {by : ℕ} (x : Stepped n rows exits g l at l' (Ok (record { next = at'; by = by }))) where
    pub reached : Placed n l' at'
    unfolding After
    reached = x.leaves.0

    pub next_steps : at'.steps ≡ at.steps + 1
    unfolding After
    next_steps = x.leaves.1

    is_exit : by ≡ exit_from (job_of rows exits g l) (machine_of l at)
    unfolding After
    is_exit = x.leaves.2

    goes_on : step_of (job_of rows exits g l) (machine_of l at) ≡ goes (machine_of l' at')
    unfolding next_of
    goes_on = sym x.is

    pub some_by : 0 < by
    some_by = rw is_exit (some_exit _ (step_kept (job_of rows exits g l) (machine_of l at) (machine_of l' at') goes_on).some)

    -- as the exit of the table
    pub stepped : Stepped n rows exits g l at l' (Ok (record { next = at'; by = exit_from (job_of rows exits g l) (machine_of l at) }))
    stepped = rw is_exit at x

    pub line_of : {label took : List ℕ} {op : Op} → label ≡ label_in rows at.region → op ≡ op_of by → took ≡ stack_text (stack_of l.stack at.core.depth)
        → line_with at'.steps label op took (stack_of l'.stack at'.core.depth) at'.core.pointers
        (drop at.core.outputs (outs_of l'.kinds l'.values at'.core.outputs))
        ≡ step_line (job_of rows exits g l) (machine_of l at) (machine_of l' at')
    line_of a b c = rw (a, b, is_exit, c, outs_length l.kinds l.values at.core.outputs)
