-- `stored::print_records`: each turn leaves less to do. Assumes nothing.
use Rattle.std.proofs.Common.{length}
use Rattle.stored.proofs.print_records.Given as goal

abbrev pub decreases-loop-head : goal.decreases-loop-head
decreases-loop-head g l = length l.rest
