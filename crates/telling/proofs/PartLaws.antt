-- A text that was written at the start of a list, as the part up to the index after it. Assumes nothing.
use mathlib.Core.Path.{◌≡◌, sym, ap, ◌∙◌}
use mathlib.Core.List.{List}
use Prim.Native.Nat.{ℕ}
use native.Mathlib.Nat.{zero-add}
use lib.ListN.{length, take, drop}
use lib.Seq.{take_at}
use Rattle.base.specs.Lent.{lent}
use Rattle.base.proofs.Over.{over_zero}
use Rattle.report.specs.Wrote.{Wrote}

module _ {d d' w : List ℕ} {n m : ℕ} (p : Wrote d 0 w n d' m) where
  pub part_size : n ≡ length w
  part_size = p.put.next ∙ zero-add (length w)

  pub part_is : take n d' ≡ w
  unfolding lent
  part_is = ap (take n) (p.put.list ∙ over_zero d w) ∙ take_at w (drop (length w) d) n (sym part_size)
