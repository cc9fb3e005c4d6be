-- `piet_c::piet_determine_runs_forever` meets its contract. Assumes nothing.
use mathlib.Core.List.{[], ◌∷◌}
use mathlib.Core.Path.{◌≡◌, refl, ap}
use mathlib.Core.Bool.{Bool, true, false, cond}
use mir.Val.{bool_byte}
use Prim.Native.Nat.{ℕ}
use Rattle.base.specs.Numbers.{numbers}
use Rattle.interpreter.specs.Forever.{numbered}
use Rattle.piet_c.specs.Exported.{short}
use Rattle.piet_c.proofs.Telling.{told}
use Rattle.piet_c.proofs.piet_determine_runs_forever.Goals as goal

bit : (b : Bool) → bool_byte b ≡ cond b 1 0
bit true = refl
bit false = refl

pub returns-then-answer-lt1 : goal.returns-then-answer-lt1
returns-then-answer-lt1 c = short c.if-answer-lt1.true refl refl refl

pub returns-in-Ok : goal.returns-in-Ok
unfolding numbered
returns-in-Ok c =
    told 0 (_ ∷ []) c.if-answer-lt1.false (c.determine_runs_forever.result, refl, c.determine_runs_forever.ensures) (rw c.in-Ok.is (ap (λ (x : ℕ). numbers 0 (x ∷ [])) (bit c.in-Ok.forever))) c.put_one.ensures

pub returns-in-Err : goal.returns-in-Err
unfolding numbered
returns-in-Err c =
    told _ _ c.if-answer-lt1.false (c.determine_runs_forever.result, refl, c.determine_runs_forever.ensures) (rw (c.in-Err.is, c.refuse.ensures.0) refl) c.refuse.ensures.1
