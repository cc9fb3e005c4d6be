use mathlib.Core.Bool.{true, false}
use mathlib.Core.Path.{◌≡◌, ◌∙◌, sym, ap, subst}
use Prim.Native.Nat.{ℕ, ◌+◌, ◌*◌, ◌≤◌}
use Prim.Native.Nat.{◌-◌}
use native.Mathlib.Omega.{arith}
use lib.ListN.{length, drop, get_or}
use Rattle.base.specs.Text.{digit}
use Rattle.netpbm.specs.Scan.{past_digits, capped}
use Rattle.netpbm.proofs.Digits.{digits_on, digits_end, digits_all, value_on, value_end, value_all}
use Rattle.netpbm.proofs.Caps.{capped_most, capped_again, same}
use Rattle.base.proofs.Digits.{digit_range}
use Rattle.netpbm.proofs.field.number_at.Goals as goal

pub returns-then-not-is_digit : goal.returns-then-not-is_digit
returns-then-not-is_digit c =
    let no_digit : digit (get_or c.args.file.now c.loop-i.i 0) ≡ false = sym c.is_digit.ensures ∙ c.if-not-is_digit.true in
    let the-args = c.args in
    let the-loop = c.loop-i in
    let the-loop-test = c.loop-i-test in
    let file = the-args.file.now in
    let l = the-loop in
    let e = no_digit in
    record {
      from = omega arith;
      to = omega arith;
      is = l.invariant.1.1.1.0 ∙ digits_end file l.i the-loop-test.true e;
      value =
          sym
          (l.invariant.1.1.1.1
          ∙ ap capped (value_end file l.i l.value the-loop-test.true e)
          ∙ same l.value l.invariant.1.1.0);
    }

pub next_value-value-requires : goal.next_value-value-requires
next_value-value-requires c =
    let the-loop = c.loop-i in
    (the-loop.invariant.1.1.0, (digit_range _ (sym c.is_digit.ensures ∙ c.if-not-is_digit.false)).0)

pub loop-i-preserved : goal.loop-i-preserved
loop-i-preserved c =
    let a-digit : digit (get_or c.args.file.now c.loop-i.i 0) ≡ true = sym c.is_digit.ensures ∙ c.if-not-is_digit.false in
    let the-args = c.args in
    let the-loop = c.loop-i in
    let the-loop-test = c.loop-i-test in
    let file = the-args.file.now in
    let l = the-loop in
    let e = a-digit in
    let r = c.next_value-value.ensures in (
      omega arith,
      (
        omega arith,
        (
          rw r (capped_most _),
          (
            l.invariant.1.1.1.0 ∙ digits_on file l.i the-loop-test.true e,
            l.invariant.1.1.1.1
                ∙ ap capped (value_on file l.i l.value the-loop-test.true e)
                ∙ rw r (sym (capped_again (l.value * 10 + (get_or file l.i 0 - 0x30)) (drop (l.i + 1) file))),
          ),
        ),
      ),
    )

pub returns : goal.returns
returns c =
    let file = c.args.file.now in
    let l = c.loop-i in
    let end : l.i ≡ length file = omega arith in
    let past : length file ≤ l.i = omega arith in
    record {
      from = omega arith;
      to = omega arith;
      is = subst (λ (n : ℕ). past_digits (drop c.args.at file) ≡ drop n file) end (l.invariant.1.1.1.0 ∙ digits_all file l.i past);
      value =
          sym
          (l.invariant.1.1.1.1
          ∙ ap capped (value_all file l.i l.value past)
          ∙ same l.value l.invariant.1.1.0);
    }
