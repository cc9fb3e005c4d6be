-- `stream::read_whole`: the bytes counted lie in what is lent, and each turn leaves less to do. Assumes nothing.
use Rattle.std.proofs.Common.{length, take, true, ◌≡◌, ◌≤◌}
use Rattle.std.specs.Io.KnownBytes.{Consumes, IsAtEnd}
use Rattle.stream.specs.Stream.{is_end}
use Rattle.stream.proofs.Turning.{left}
use Rattle.stream.proofs.read_whole.Given as goal

abbrev pub invariant-loop-done : goal.invariant-loop-done
invariant-loop-done g l = (length l.buf ≡ length l.initial.buf) × (l.done ≤ length l.buf) × (l.tries ≤ 4294967296)
    × Consumes (g.R.Read.remaining l.initial.reader) (g.R.Read.remaining l.reader) (take l.done l.buf)
    × (is_end l.last ≡ true → IsAtEnd (g.R.Read.remaining l.reader))

abbrev pub decreases-loop-done : goal.decreases-loop-done
decreases-loop-done g l = left (length l.initial.buf) 4294967296 l.done l.tries l.last
