use mathlib.Core.Path.{sym, ◌∙◌}
use native.Mathlib.Omega.{arith}
use Rattle.text.specs.Utf8.{IsChar}
use Rattle.text.proofs.ValidLaws.{is-char, else_tag, no_char}
use Rattle.text.proofs.TrimLaws.{back_more, back_stop, back_bad, back_end}
use Rattle.text.proofs.white.white_back.Goals as goal

pub returns-in_default : goal.returns-in_default
returns-in_default c =
    let s = c.args.line.now in
    let k = c.last_start-k in
    let d = c.decode in
    let none = no_char s k.result d.result d.ensures (else_tag s k.result d.result d.ensures c.in_default.not-Char) (omega (arith, k.ensures)) in
    record { within = c.loop-e.invariant.0; text = back_bad s c.loop-e.e k.result c.loop-e.invariant.0 k.ensures c.loop-e.invariant.1 none }

pub loop-e-preserved : goal.loop-e-preserved
loop-e-preserved c =
    let read : IsChar c.args.line.now c.last_start-k.result c.in-Char.cp c.in-Char.next =
    let d = c.decode in
    is-char _ _ d.result d.ensures _ _ c.in-Char.is in
    let s = c.args.line.now in
    let k = c.last_start-k in (
      omega (arith, k.ensures),
      back_more s c.loop-e.e k.result c.loop-e.invariant.0 k.ensures c.loop-e.invariant.1 _ _ read
          (sym c.is_white.ensures ∙ c.if-is_white.true),
    )

pub returns-else-is_white : goal.returns-else-is_white
returns-else-is_white c =
    let read : IsChar c.args.line.now c.last_start-k.result c.in-Char.cp c.in-Char.next =
    let d = c.decode in
    is-char _ _ d.result d.ensures _ _ c.in-Char.is in
    let s = c.args.line.now in
    let k = c.last_start-k in
    record {
      within = c.loop-e.invariant.0;
      text =
          back_stop s c.loop-e.e k.result c.loop-e.invariant.0 k.ensures c.loop-e.invariant.1 _ _ read
          (sym c.is_white.ensures ∙ c.if-is_white.false);
    }

pub returns : goal.returns
returns c =
    record {
      within = c.loop-e.invariant.0;
      text = back_end c.args.line.now c.loop-e.e c.loop-e-test.false c.loop-e.invariant.1;
    }
