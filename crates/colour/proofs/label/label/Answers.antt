-- `colour::label::label` meets its contract: where nothing is refused, the label and the zeros after it fill the first 22 bytes.
-- Assumes nothing.
use mathlib.Core.Path.{◌∙◌, ap, refl}
use mathlib.Core.List.{[], ◌∷◌}
use Prim.Native.Nat.{ℕ}
use native.Mathlib.Nat.{zero-add}
use native.Mathlib.Omega.{arith}
use lib.ListN.{length}
use Rattle.base.specs.Numbers.{numbers, first}
use Rattle.colour.specs.Label.{answer}
use Rattle.base.proofs.Over.{put_length}
use Rattle.colour.proofs.LabelLaws.{Allowed, allowed, label_length, finished}
use Rattle.colour.proofs.label.label.Goals as goal

pub returns-then-refuses : goal.returns-then-refuses
unfolding answer first
returns-then-refuses c = record { answers = rw (← c.refuses.ensures, c.if-refuses.true); leaves = refl }

pub fill-requires : goal.fill-requires
fill-requires c =
    let right : let a = c.args in Allowed a.colour a.row a.column (length a.out.now) =
    let a = c.args in
    allowed a.colour a.row a.column (length a.out.now) (rw (← c.refuses.ensures) c.if-refuses.false) in
    let k = right in
    let p = c.put_label-n.ensures in
    let l = label_length c.args.colour c.args.row c.args.column k.rows k.columns in
    let r = k.roomy in
    (omega (arith, p.next), omega (arith, put_length (omega arith) p))

pub returns : goal.returns
unfolding answer first
returns c =
    let right : let a = c.args in Allowed a.colour a.row a.column (length a.out.now) =
    let a = c.args in
    allowed a.colour a.row a.column (length a.out.now) (rw (← c.refuses.ensures) c.if-refuses.false) in
    let k = right in
    let p = c.put_label-n.ensures in
    record {
      answers = rw (← c.refuses.ensures, c.if-refuses.false) (ap (λ (n : ℕ). numbers 0 (n ∷ [])) (p.next ∙ zero-add _));
      leaves =
          finished (label_length c.args.colour c.args.row c.args.column k.rows k.columns) k.roomy p
          c.fill.ensures;
    }
