-- `stack::bad_depth` meets its contract, by the sign of n. Assumes nothing.
use mathlib.Core.Path.{◌≡◌, refl, ◌∙◌}
use mathlib.Core.Bool.{true}
use Prim.Native.Nat.{ℕ}
use lib.Dec.{ltb}
use lib.IntN.{ℤ}
use lib.Signed.{mag}
use Rattle.word.proofs.Signed.{Neg, neg, NonNeg, nonneg, is_neg, is_non_neg, cast_pos}
use Rattle.stack.specs.Instr.{bad_depth}
use Rattle.stack.proofs.bad_depth.Goals as goal

below : {n : ℤ} (d : ℕ) → Neg n → true ≡ bad_depth n d
unfolding bad_depth
below d (neg n h) = refl

compared : {n : ℤ} (d : ℕ) → NonNeg n → ltb d (mag n) ≡ bad_depth n d
unfolding bad_depth
compared d (nonneg n h) = refl

pub returns-then-n-lt0 : goal.returns-then-n-lt0
returns-then-n-lt0 c = c.if-n-lt0.true ∙ below c.args.d (is_neg _ c.ranges.n c.if-n-lt0.true)

pub returns-else-n-lt0 : goal.returns-else-n-lt0
returns-else-n-lt0 c =
    let is-nonneg : NonNeg c.args.n = is_non_neg _ c.ranges.n c.if-n-lt0.false in
    rw (cast_pos is-nonneg) (compared c.args.d is-nonneg)
