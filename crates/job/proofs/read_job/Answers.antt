-- `job::read_job` meets its contract: parts are read, or there are none. Assumes nothing.
use Rattle.std.proofs.Common.{List, ℕ, Option, None, Some, MatchOption, refl}
use Rattle.std.specs.Option.{ok_or}
use Rattle.base.specs.declared.refusal.Refusal.TheVariants as refusal
use Rattle.job.specs.declared.Parts.{Parts}
use Rattle.job.specs.Outcome.{NoJob, Reads, Outcome, accepted, refused}
use Rattle.job.proofs.read_job.Goals as goal

told : {job : List ℕ} (o : Option Parts) → MatchOption o (NoJob job) (Reads job) → Outcome job (ok_or o refusal.Job)
told None n = refused n refl
told (Some p) r = accepted p r refl

pub returns : goal.returns
returns c = rw c.ok_or.ensures.value (told c.parts_in.result c.parts_in.ensures)
