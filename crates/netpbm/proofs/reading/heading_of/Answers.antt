-- `netpbm::reading::heading_of` meets its contract: the fields that were found are those of every header the file could have.
-- Assumes nothing.
use mathlib.Core.Bool.{true≢false}
use mathlib.Core.Path.{◌≡◌, ◌∙◌, sym}
use native.Mathlib.Omega.{arith}
use Rattle.netpbm.proofs.Headers.{first_field, width_stops, second_field, height_stops, third_field, last_stops, maximum_is, capped_maximum, last_there, last_white, whole}
use Rattle.netpbm.proofs.reading.heading_of.Goals as goal

pub returns-in_err-width : goal.returns-in_err-width
returns-in_err-width c =
    rw c.from_residual.ensures (λ h w p a. c.in_err-width.ensures w _ (width_stops a) (first_field a))

pub returns-in_err-height : goal.returns-in_err-height
returns-in_err-height c =
    rw c.from_residual-in_err-height.ensures
    (λ h w p a. c.in_err-height.ensures h _ (height_stops a) (second_field a c.in_ok-width.ensures))

pub returns-in_err-maximum : goal.returns-in_err-maximum
returns-in_err-maximum c =
    rw c.from_residual-in_err-maximum.ensures
    (λ h w p a. c.in_err-maximum.ensures 255 _ (last_stops a) (third_field a c.in_ok-width.ensures c.in_ok-height.ensures))

pub returns-then-maximum-ne255 : goal.returns-then-maximum-ne255
returns-then-maximum-ne255 c = λ h w p a.
    omega (arith, maximum_is a c.in_ok-width.ensures c.in_ok-height.ensures c.in_ok-maximum.ensures, capped_maximum)

pub returns-then-last-file : goal.returns-then-last-file
returns-then-last-file c = λ h w p a.
    last_there a c.in_ok-width.ensures c.in_ok-height.ensures c.in_ok-maximum.ensures c.if-last-file.true

pub returns-then-not-is_header_white : goal.returns-then-not-is_header_white
returns-then-not-is_header_white c = λ h w p a.
    true≢false
    (sym (last_white a c.in_ok-width.ensures c.in_ok-height.ensures c.in_ok-maximum.ensures) ∙ sym c.is_header_white.ensures
    ∙ c.if-not-is_header_white.true)

pub returns : goal.returns
returns c =
    let t = c.in_ok-maximum.ensures in
    let e : c.in_ok-maximum.maximum.value ≡ 255 = omega arith in
    whole c.if-file-lt2.false c.if-file-ne80.false c.if-file-ne54.false c.in_ok-width.ensures c.in_ok-height.ensures (rw e at t)
    (omega (arith, t.to)) (sym c.is_header_white.ensures ∙ c.if-not-is_header_white.false)
