use Prim.Native.Nat.{◌+◌, ◌-◌, ◌*◌}
use mathlib.Core.Path.{◌≡◌, refl, sym, ap, ◌∙◌}
use native.Mathlib.Omega.{arith}
use lib.ListN.{drop, get_or}
use Rattle.base.specs.Text.{value_after}
use Rattle.base.proofs.Digits.{numeral_all, digit_range}
use Rattle.std.specs.Prelude.{Ok}
use Rattle.text.proofs.NumberLaws.{no_magnitude, digits_both, value_on, value_end, value_le, too_large, is_magnitude}
use Rattle.text.proofs.number.magnitude.Goals as goal

pub returns-then-not-is_numeral : goal.returns-then-not-is_numeral
returns-then-not-is_numeral c = sym (no_magnitude c.args.limit c.args.s.now (sym c.is_numeral.ensures ∙ c.if-not-is_numeral.true))

pub loop-b-init : goal.loop-b-init
loop-b-init c = (omega arith, numeral_all c.args.s.now (sym c.is_numeral.ensures ∙ c.if-not-is_numeral.false), refl)

pub returns-then-limit-d : goal.returns-then-limit-d
returns-then-limit-d c =
    let s = c.args.s.now in
    let l = c.loop-b in
    let b = get_or s l.b-index 0 in
    let d = digit_range b (digits_both s l.b-index (omega arith) l.invariant.1).0 in
    let e = l.invariant.2 ∙ value_on s l.b-index l.n b (omega arith) refl in
    sym
    (too_large c.args.limit s (sym c.is_numeral.ensures ∙ c.if-not-is_numeral.false)
    (omega (arith, d, value_le (l.n * 10 + (b - 0x30)) (drop (l.b-index + 1) s))))

pub loop-b-preserved : goal.loop-b-preserved
loop-b-preserved c =
    let s = c.args.s.now in
    let l = c.loop-b in
    let b = get_or s l.b-index 0 in
    let both = digits_both s l.b-index (omega arith) l.invariant.1 in
    let d = digit_range b both.0 in
    (omega (arith, d), both.1, l.invariant.2 ∙ value_on s l.b-index l.n b (omega arith) refl)

pub returns : goal.returns
returns c =
    let s = c.args.s.now in
    let l = c.loop-b in
    let e : value_after 0 s ≡ l.n = l.invariant.2 ∙ value_end s l.b-index l.n (omega arith) in
    sym (is_magnitude c.args.limit s (sym c.is_numeral.ensures ∙ c.if-not-is_numeral.false) (omega arith) ∙ ap Ok e)

pub overflow_sub-d : goal.overflow_sub-d
overflow_sub-d c = omega (arith, digit_range _ (digits_both c.args.s.now c.loop-b.b-index (omega arith) c.loop-b.invariant.1).0)

pub overflow_sub-limit : goal.overflow_sub-limit
overflow_sub-limit c = omega (arith, digit_range _ (digits_both c.args.s.now c.loop-b.b-index (omega arith) c.loop-b.invariant.1).0)
