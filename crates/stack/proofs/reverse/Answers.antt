-- `stack::reverse` meets its contract: the exchanges from both ends inward put the cells into the opposite order. Assumes nothing.
use mathlib.Core.Path.{◌≡◌, sym, ap, ◌∙◌}
use mathlib.Core.List.{List, ◌++◌, reverse, append_assoc}
use Prim.Native.Nat.{ℕ, ◌+◌, ◌-◌}
use native.Mathlib.Omega.{arith}
use lib.ListN.{take, drop}
use lib.Seq.{drop-drop}
use lib.IntN.{ℤ}
use Rattle.stack.proofs.Mirror.{mirrored}
use Rattle.stack.proofs.Exchanging.{reversed}
use Rattle.stack.proofs.reverse.Goals as goal

pub returns : goal.returns
unfolding mirrored
returns c =
    let s = c.args.s.now in
    let lo = c.args.lo in
    let hi = c.args.hi in
    let part : List ℤ = take (hi - lo) (drop lo s) in
    let e : lo + (hi - lo) ≡ hi = omega arith in
    ap (λ (l : List ℤ). take lo s ++ (l ++ drop (hi - lo) (drop lo s))) c.reverse.ensures.after
    ∙ ap (λ (l : List ℤ). take lo s ++ (reverse part ++ l)) (drop-drop (hi - lo) lo s ∙ ap (λ (k : ℕ). drop k s) e)
    ∙ sym (append_assoc (take lo s) (reverse part) (drop hi s))
    ∙ sym (reversed lo hi s (omega arith) (omega arith))
