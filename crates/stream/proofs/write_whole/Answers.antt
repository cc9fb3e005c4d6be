-- `stream::write_whole`: what a turn wrote follows what was written before. Assumes nothing.
use Rattle.std.proofs.Common.{arith, take, drop, sym, subst}
use Rattle.std.specs.Io.KnownBytes.{Appends}
use Rattle.std.proofs.KnownBytes.{Appends-trans}
use lib.Seq.{take-add}
use Rattle.stream.proofs.Turning.{vain_few}
use Rattle.stream.proofs.write_whole.Goals as goal

pub loop-done-preserved : goal.loop-done-preserved
loop-done-preserved g c =
    let from = c.loop-done.done in
    let came = c.write_from-last in
    let now = subst (λ n. Appends (g.W.Write.contents c.loop-done.writer) (g.W.Write.contents came.new.writer) (take n (drop from c.args.buf.now))) (sym c.moved-done.ensures) came.ensures.bytes in
    (omega (arith, came.ensures.makes.fits), omega (arith, vain_few came.result c.waited-tries.ensures), subst (Appends _ _) (sym (take-add from c.moved-done.result c.args.buf.now)) (Appends-trans _ _ _ _ _ c.loop-done.invariant.2 now))
