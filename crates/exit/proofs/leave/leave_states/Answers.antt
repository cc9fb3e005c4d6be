use mathlib.Core.Path.{subst}
use lib.ListN.{length}
use Rattle.flow.specs.declared.PointerState.{PointerState}
use Rattle.exit.specs.Keeping.{Kept}
use Rattle.exit.proofs.KeepingLaws.{all_more}
use Rattle.exit.proofs.leave.leave_states.Goals as goal

pub loop-n-preserved : goal.loop-n-preserved
loop-n-preserved c =
    let a = c.args in
    let l = c.loop-n in
    let h = c.loop-n-test.true in
    let e = c.leave_state.ensures in
    let s = c.of_number.ensures in
    let k =
    subst (λ (t : PointerState). Kept a.map.now l.best c.leave_state.new.best a.rows a.cols t (length a.map.now)) s e.1 in
    record { cells = e.0; so_far = all_more _ _ _ _ _ _ l.n h l.invariant.so_far k }
