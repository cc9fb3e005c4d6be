-- `telling::line::put_move` meets its contract: its two halves, of at most 499 bytes.
-- Assumes nothing.
use native.Mathlib.Omega.{arith}
use Rattle.report.proofs.Writing.{widen, wrote_then}
use Rattle.telling.specs.Line.{line_with}
use Rattle.telling.proofs.line.put_move.Goals as goal

pub returns : goal.returns
unfolding line_with
returns c =
    let h = c.requires.label_len_bound.1 in
    widen (wrote_then c.put_took-next.ensures c.put_left.ensures (omega arith)) 512 (omega arith)
