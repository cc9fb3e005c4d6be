use Rattle.std.proofs.Common.{ap, ◌∙◌, sym, refl, ◌≡◌, ◌-◌, List, length, arith, append-nil}
use Rattle.std.proofs.lemmas.Slice.{put_mid-paste}
use lib.Seq.{drop-length}
use lib.ListN.{set, take, drop, replicate, length-take, length-drop, length-replicate}
use Rattle.base.specs.Lent.{filled}
use Rattle.base.proofs.Over.{filled_none, filled_turn, filled_zero, paste_over}
use Rattle.base.proofs.fill.fill.Goals as goal

pub loop-cell-init : goal.loop-cell-init
loop-cell-init g c = filled_none _ 0 c.args.v

pub loop-cell-preserved : goal.loop-cell-preserved
loop-cell-preserved g c =
    let l = c.loop-cell in
    ap (λ (d : List g.row.T.Denot). set d l.cell-index c.args.v) l.invariant
    ∙ filled_turn (take (c.args.to - c.args.from) (drop c.args.from c.args.d.now)) 0 l.cell-index c.args.v (omega arith) (omega arith)

pub returns : goal.returns
unfolding filled
returns g c =
    let n = c.args.to - c.args.from in
    let a = c.args in
    let xs = take n (drop a.from a.d.now) in
    let l = c.loop-cell in
    let k : l.cell-index ≡ length xs = omega arith in
    let m : length xs ≡ n = simp (length-take, length-drop) (omega arith) in
    put_mid-paste a.from n a.d.now l.cell-items (replicate n a.v) n
    (rw (← m, ← k) (l.invariant ∙ filled_zero xs l.cell-index a.v ∙ rw (k, drop-length, append-nil)))
    refl (sym (length-replicate n a.v))
    ∙ paste_over a.d.now a.from (replicate n a.v) n (sym (length-replicate n a.v))
