use mathlib.Core.Path.{◌≡◌, subst}
use mathlib.Core.List.{List}
use Prim.Native.Nat.{ℕ, ◌+◌, ◌<◌}
use native.Mathlib.Omega.{arith}
use lib.ListN.{length}
use Rattle.flow.specs.declared.PointerState.{PointerState}
use Rattle.exit.specs.Keeping.{Kept, kept}
use Rattle.exit.proofs.KeepingLaws.{kept_more, cells_more}
use Rattle.exit.proofs.leave.leave_state.Invariants.{Passing}
use Rattle.exit.proofs.leave.leave_state.Goals as goal

weighed : {map best₀ best best' : List ℕ} {rows cols : ℕ} {s : PointerState} {i : ℕ} → Passing map best₀ best rows cols s i
    → i < length map → best' ≡ kept map best rows cols s i → Passing map best₀ best' rows cols s (i + 1)
weighed P h e =
    record {
      cells = rw e (cells_more _ _ _ _ _ _ P.cells h P.valid);
      so_far = rw e (kept_more _ _ _ _ _ _ P.cells h P.valid _ P.so_far);
      valid = P.valid;
    }

pub loop-i-preserved : goal.loop-i-preserved
loop-i-preserved c =
    weighed c.loop-i.invariant c.loop-i-test.true
    c.keep.ensures

pub returns : goal.returns
returns c =
    let a = c.args in
    let l = c.loop-i in
    let e : l.i ≡ length a.map.now = omega (arith, l.auto.i-end, c.loop-i-test.false) in
    (l.invariant.cells, subst (Kept a.map.now a.best.now l.best a.rows a.cols a.s) e l.invariant.so_far)
