-- `shade::shade` meets its contract: too little room, no job, or a job that is run. Assumes nothing.
use mathlib.Core.Path.{refl}
use Rattle.job.proofs.Only.{accepted_reads}
use Rattle.answer.specs.Program.{short, printed}
use Rattle.answer.proofs.Answering.{prints_none}
use Rattle.shade.proofs.shade.Goals as goal

pub returns-then-out-lt-ROOM : goal.returns-then-out-lt-ROOM
returns-then-out-lt-ROOM c = short c.if-out-lt-ROOM.true refl refl

pub returns-in-Err : goal.returns-in-Err
returns-in-Err c =
    printed c.if-out-lt-ROOM.false (prints_none c.in-Err.ensures c.number.ensures c.put_refusal.ensures)

pub shade_job-requires : goal.shade_job-requires
shade_job-requires c = (c.if-out-lt-ROOM.false, accepted_reads c.in-Ok.ensures)

pub returns-in-Ok : goal.returns-in-Ok
returns-in-Ok c = printed c.if-out-lt-ROOM.false c.shade_job.ensures
