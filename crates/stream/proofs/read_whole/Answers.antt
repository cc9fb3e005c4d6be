-- `stream::read_whole`: what a turn read follows what was read before. Assumes nothing.
use Rattle.std.proofs.Common.{◌++◌, rules, arith, take, drop, sym, ap, ◌∙◌, subst}
use Rattle.std.specs.Io.KnownBytes.{Consumes}
use Rattle.std.proofs.KnownBytes.{Consumes-trans}
use lib.Seq.{take-add}
use Rattle.stream.proofs.Turning.{vain_few}
use Rattle.stream.proofs.read_whole.Goals as goal

pub loop-done-preserved : goal.loop-done-preserved
loop-done-preserved g c =
    let from = c.loop-done.done in
    let came = c.read_from-last in
    let joined = ap (λ l. l ++ take c.moved-done.result (drop from came.new.buf)) (sym came.ensures.reads.kept) ∙ sym (take-add from c.moved-done.result came.new.buf) in
    let now = subst (λ n. Consumes (g.R.Read.remaining c.loop-done.reader) (g.R.Read.remaining came.new.reader) (take n (drop from came.new.buf))) (sym c.moved-done.ensures) came.ensures.bytes in
    (search rules, omega (arith, came.ensures.reads.makes.fits), omega (arith, vain_few came.result c.waited-tries.ensures), subst (Consumes _ _) joined (Consumes-trans _ _ _ _ _ c.loop-done.invariant.3 now), λ e. came.ensures.end e c.loop-done-test.true)
