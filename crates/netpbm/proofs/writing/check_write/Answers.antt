-- `netpbm::writing::check_write` meets its contract: the tests come in the order of the table of refusals.
-- Assumes nothing.
use mathlib.Core.List.{[], ◌∷◌}
use mathlib.Core.Bool.{false}
use mathlib.Core.Path.{◌≡◌, ◌∙◌, sym, ap}
use Prim.Native.Nat.{ℕ, ◌+◌, ◌*◌, ◌≤◌}
use native.Mathlib.Omega.{arith}
use borrow.Author.Tests.{lt-ltb, le-ltb, eq-eqb, ne_eqb}
use lib.ListN.{length}
use Rattle.base.proofs.Sides.{side, area}
use Rattle.base.specs.Limits.{wrong_side}
use Rattle.base.specs.Numbers.{numbers, first}
use Rattle.netpbm.specs.Writes.{answer, refusals}
use Rattle.netpbm.specs.File.{shortest}
use Rattle.netpbm.proofs.WriteLaws.{shortest_length, side_digits}
use Rattle.netpbm.proofs.writing.check_write.Goals as goal

pub returns-then-wrong_side : goal.returns-then-wrong_side
unfolding answer refusals first
returns-then-wrong_side c = rw (← c.wrong_side.ensures, c.if-wrong_side.true)

pub returns-then-wrong_side-2 : goal.returns-then-wrong_side-2
unfolding answer refusals first
returns-then-wrong_side-2 c =
    let the-wrong-side = c.wrong_side in
    let the-if1 = c.if-wrong_side in
    rw (← the-wrong-side.ensures, the-if1.false, ← c.wrong_side-2.ensures, c.if-wrong_side-2.true)

pub returns-then-pixels-n : goal.returns-then-pixels-n
unfolding answer refusals first
returns-then-pixels-n c =
    let high : wrong_side c.args.height ≡ false = sym c.wrong_side.ensures ∙ c.if-wrong_side.false in
    let wide : wrong_side c.args.width ≡ false = sym c.wrong_side-2.ensures ∙ c.if-wrong_side-2.false in
    rw (high, wide, ne_eqb _ _ c.if-pixels-n.true)

pub overflow_add-length : goal.overflow_add-length
overflow_add-length c =
    let a = c.args in
    let wide : wrong_side a.width ≡ false = sym c.wrong_side-2.ensures ∙ c.if-wrong_side-2.false in
    let w4 : c.digit_count-width_digits.result ≤ 4 = rw c.digit_count-width_digits.ensures (side_digits a.width (side a.width wide).1) in
    record { fits = omega (arith, w4) }

pub overflow_add-length-2 : goal.overflow_add-length-2
overflow_add-length-2 c =
    let a = c.args in
    let high : wrong_side a.height ≡ false = sym c.wrong_side.ensures ∙ c.if-wrong_side.false in
    let wide : wrong_side a.width ≡ false = sym c.wrong_side-2.ensures ∙ c.if-wrong_side-2.false in
    let w4 : c.digit_count-width_digits.result ≤ 4 = rw c.digit_count-width_digits.ensures (side_digits a.width (side a.width wide).1) in
    let h4 : c.digit_count-height_digits.result ≤ 4 = rw c.digit_count-height_digits.ensures (side_digits a.height (side a.height high).1) in
    record { fits = omega (arith, w4, h4) }

pub overflow_add-length-3 : goal.overflow_add-length-3
overflow_add-length-3 c =
    let a = c.args in
    let high : wrong_side a.height ≡ false = sym c.wrong_side.ensures ∙ c.if-wrong_side.false in
    let wide : wrong_side a.width ≡ false = sym c.wrong_side-2.ensures ∙ c.if-wrong_side-2.false in
    let w4 : c.digit_count-width_digits.result ≤ 4 = rw c.digit_count-width_digits.ensures (side_digits a.width (side a.width wide).1) in
    let h4 : c.digit_count-height_digits.result ≤ 4 = rw c.digit_count-height_digits.ensures (side_digits a.height (side a.height high).1) in
    let small : a.height * a.width ≤ 1048576 = area (side a.height high).1 (side a.width wide).1 in
    record { fits = omega (arith, w4, h4, small) }

pub returns-then-room-length : goal.returns-then-room-length
unfolding answer refusals first
returns-then-room-length c =
    let high : wrong_side c.args.height ≡ false = sym c.wrong_side.ensures ∙ c.if-wrong_side.false in
    let wide : wrong_side c.args.width ≡ false = sym c.wrong_side-2.ensures ∙ c.if-wrong_side-2.false in
    let length-is : let a = c.args in length (shortest a.height a.width a.pixels.now) ≡ 9 + c.digit_count-width_digits.result + c.digit_count-height_digits.result + 3 * (a.height * a.width) =
    let a = c.args in
    omega (arith, shortest_length a.height a.width a.pixels.now, c.digit_count-width_digits.ensures, c.digit_count-height_digits.ensures, c.if-pixels-n.false) in
    let a = c.args in
    let the-if3 = c.if-pixels-n in
    rw (high, wide, eq-eqb _ _ the-if3.false, lt-ltb a.room (length (shortest a.height a.width a.pixels.now)) (omega (arith, length-is, c.if-room-length.true)))

pub returns : goal.returns
unfolding answer refusals first
returns c =
    let high : wrong_side c.args.height ≡ false = sym c.wrong_side.ensures ∙ c.if-wrong_side.false in
    let wide : wrong_side c.args.width ≡ false = sym c.wrong_side-2.ensures ∙ c.if-wrong_side-2.false in
    let length-is : let a = c.args in length (shortest a.height a.width a.pixels.now) ≡ 9 + c.digit_count-width_digits.result + c.digit_count-height_digits.result + 3 * (a.height * a.width) =
    let a = c.args in
    omega (arith, shortest_length a.height a.width a.pixels.now, c.digit_count-width_digits.ensures, c.digit_count-height_digits.ensures, c.if-pixels-n.false) in
    let a = c.args in
    let the-if3 = c.if-pixels-n in
    rw (high, wide, eq-eqb _ _ the-if3.false, le-ltb a.room (length (shortest a.height a.width a.pixels.now)) (omega (arith, length-is, c.if-room-length.false)))
    (ap (λ (n : ℕ). numbers 0 (n ∷ [])) (omega (arith, length-is)))
