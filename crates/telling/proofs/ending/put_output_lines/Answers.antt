-- `telling::ending::put_output_lines` meets its contract: the bytes that were written apart, after their number.
-- Assumes nothing.
use mathlib.Core.List.{append_assoc}
use native.Mathlib.Omega.{arith}
use lib.ListN.{length}
use Rattle.base.specs.Text.{ascii}
use Rattle.machine.specs.Output.{outs_of}
use Rattle.report.specs.Text.{newline, counted}
use Rattle.report.proofs.Writing.{wrote, widen, room_of_lem, wrote_room, wrote_then}
use Rattle.telling.specs.Ending.{output_lines}
use Rattle.telling.specs.Outputs.{output_text}
use Rattle.telling.proofs.PartLaws.{part_size, part_is}
use Rattle.telling.proofs.ending.put_output_lines.Goals as goal

pub put_word-requires : goal.put_word-requires
put_word-requires c =
    let a = c.args in
    let h = c.requires.at_in_bounds in
    let k = c.requires.count_in_bounds.1 in
    let p = c.put_outputs-n.ensures in
    let s = p.short in
    let w₂ = wrote_then c.put_count-a.ensures (wrote c.put_word-b.ensures 8 (omega arith)) (omega arith) in
    rw (part_is p) (room_of_lem (output_text (outs_of a.kinds.now a.values.now a.count)) 5120 (omega arith) (wrote_room 5120 w₂ (omega arith)))

pub returns : goal.returns
unfolding output_lines
returns c =
    let a = c.args in
    let h = c.requires.at_in_bounds in
    let k = c.requires.count_in_bounds.1 in
    let p = c.put_outputs-n.ensures in
    let s = p.short in
    let w₁ = rw (part_size p) at c.put_count-a.ensures in
    let w₂ = wrote_then w₁ (wrote c.put_word-b.ensures 8 (omega arith)) (omega arith) in
    let t = output_text (outs_of a.kinds.now a.values.now a.count) in
    rw (append_assoc (counted (ascii "output ") (length t)) (ascii " bytes:") newline)
    (widen (wrote_then w₂ (wrote (rw (part_is p) at c.put_word.ensures) 5120 (omega arith)) (omega arith)) 5155 (omega arith))
