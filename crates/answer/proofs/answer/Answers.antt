-- `answer::answer` meets its contract: too little room, no job, or a job that is run. Assumes nothing.
use mathlib.Core.Path.{refl}
use Rattle.job.proofs.Only.{accepted_reads}
use Rattle.answer.specs.Program.{short, printed}
use Rattle.answer.proofs.Answering.{prints_none}
use Rattle.answer.proofs.answer.Goals as goal

pub returns-then-out-lt-ROOM : goal.returns-then-out-lt-ROOM
returns-then-out-lt-ROOM c = short c.if-out-lt-ROOM.true refl refl

pub returns-in-Err : goal.returns-in-Err
returns-in-Err c =
    printed c.if-out-lt-ROOM.false (prints_none c.in-Err.ensures c.number.ensures c.put_refusal.ensures)

pub run_job-requires : goal.run_job-requires
run_job-requires c = (c.if-out-lt-ROOM.false, accepted_reads c.in-Ok.ensures)

pub returns-in-Ok : goal.returns-in-Ok
returns-in-Ok c = printed c.if-out-lt-ROOM.false c.run_job.ensures
