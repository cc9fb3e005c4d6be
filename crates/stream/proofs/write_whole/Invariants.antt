-- `stream::write_whole`: the bytes counted lie in what is lent, and each turn leaves less to do. Assumes nothing.
use Rattle.std.proofs.Common.{length, take, ◌≤◌}
use Rattle.std.specs.Io.KnownBytes.{Appends}
use Rattle.stream.proofs.Turning.{left}
use Rattle.stream.proofs.write_whole.Given as goal

abbrev pub invariant-loop-done : goal.invariant-loop-done
invariant-loop-done g l = (l.done ≤ length l.buf) × (l.tries ≤ 4294967296)
    × Appends (g.W.Write.contents l.initial.writer) (g.W.Write.contents l.writer) (take l.done l.buf)

abbrev pub decreases-loop-done : goal.decreases-loop-done
decreases-loop-done g l = left (length l.buf) 4294967296 l.done l.tries l.last
