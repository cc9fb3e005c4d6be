-- `machine::output::int_out` meets its contract. Assumes nothing.
use mathlib.Core.Path.{sym, ◌∙◌}
use mathlib.Core.List.{[], ◌∷◌}
use Prim.Native.Nat.{◌-◌, ◌<◌}
use native.Mathlib.Omega.{arith}
use lib.ListN.{get_or}
use lib.IntN.{pos}
use Rattle.word.proofs.Signed.{back}
use Rattle.machine.specs.Output.{int_out, Puts}
use Rattle.machine.proofs.Emitting.{top_is, same_top, empty_kept}
use Rattle.machine.proofs.output.int_out.Goals as goal

pub returns-then-depth-eq0 : goal.returns-then-depth-eq0
unfolding Puts
returns-then-depth-eq0 c = empty_kept _ c.if-depth-eq0.true c.requires.lies c.requires.holds

pub returns : goal.returns
returns c =
    let a = c.args in
    let r = c.put_out in
    let v = get_or a.stack.now (a.depth - 1) (pos 0) in
    let some : 0 < a.depth = omega arith in
    same_top int_out (λ _. record { kind = 2; value = v } ∷ []) a.stack.now a.depth a.kinds.now a.values.now a.n
    r.new.stack r.new.kinds r.new.values r.result
    (top_is int_out a.stack.now a.depth some
    ∙ sym (top_is (λ _. record { kind = 2; value = v } ∷ []) a.stack.now a.depth some))
    (rw (back v c.v-1.given) at r.ensures)
