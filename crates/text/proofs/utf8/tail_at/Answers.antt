-- `text::utf8::tail_at` meets its contract, by the bounds of a continuation byte.
-- Assumes nothing.
use Prim.Native.Nat.{◌-◌}
use mathlib.Core.Path.{refl}
use native.Mathlib.Omega.{arith}
use Rattle.text.specs.LongChar.{tail}
use Rattle.text.proofs.utf8.tail_at.Goals as goal

pub returns-then-b-lt192 : goal.returns-then-b-lt192
returns-then-b-lt192 c =
    let b = c.wide-b.result in
    tail (b - 0x80) (record { inside = omega arith; small = omega arith; byte = omega arith }) refl
