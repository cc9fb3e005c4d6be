use mathlib.Core.Path.{◌∙◌, ap, refl}
use mathlib.Core.List.{List}
use Prim.Native.Nat.{ℕ, ◌+◌}
use native.Mathlib.Numerals.{add-one}
use native.Mathlib.Omega.{arith}
use lib.ListN.{get_or, set, length-set}
use lib.Seq.{paste-zero, paste-suc}
use Rattle.base.proofs.Over.{paste_over}
use Rattle.base.proofs.put.put_word.Goals as goal

pub loop-i-init : goal.loop-i-init
loop-i-init c = let a = c.args in (refl, paste-zero a.out.now a.at a.word.now)

pub loop-i-preserved : goal.loop-i-preserved
loop-i-preserved c =
    let a = c.args in
    let l = c.loop-i in
    let x = get_or a.word.now l.i 0 in (
      simp length-set l.invariant.0,
      ap (λ (d : List ℕ). set d (a.at + l.i) x) l.invariant.1
          ∙ rw (add-one l.i) (paste-suc a.out.now a.at a.word.now l.i 0 (omega arith) (omega arith)),
    )

pub returns : goal.returns
returns c =
    let a = c.args in
    let l = c.loop-i in
    record {
      next = omega arith;
      list = l.invariant.1 ∙ paste_over a.out.now a.at a.word.now l.i (omega arith);
    }
