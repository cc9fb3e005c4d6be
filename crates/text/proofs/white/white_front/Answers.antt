use mathlib.Core.Path.{sym, ◌∙◌}
use native.Mathlib.Omega.{arith}
use Rattle.text.specs.Utf8.{IsChar}
use Rattle.text.proofs.ValidLaws.{read_on, read_within, is-char, else_tag, no_char}
use Rattle.text.proofs.TrimLaws.{front_more, front_stop, front_bad, front_end}
use Rattle.text.proofs.white.white_front.Goals as goal

pub returns-in_default : goal.returns-in_default
returns-in_default c =
    let s = c.args.line.now in
    let d = c.decode in
    let none = no_char s c.loop-i.i d.result d.ensures (else_tag s c.loop-i.i d.result d.ensures c.in_default.not-Char) (omega arith) in
    record { within = c.loop-i.invariant.0; text = front_bad s c.loop-i.i c.loop-i.invariant.1 (omega arith) none }

pub loop-i-smaller : goal.loop-i-smaller
loop-i-smaller c =
    let read : IsChar c.args.line.now c.loop-i.i c.in-Char.cp c.in-Char.next =
    let d = c.decode in
    is-char _ _ d.result d.ensures _ _ c.in-Char.is in
    omega (arith, read_on c.args.line.now c.loop-i.i _ _ read)

pub loop-i-preserved : goal.loop-i-preserved
loop-i-preserved c =
    let read : IsChar c.args.line.now c.loop-i.i c.in-Char.cp c.in-Char.next =
    let d = c.decode in
    is-char _ _ d.result d.ensures _ _ c.in-Char.is in
    let s = c.args.line.now in
    let r = read in (
      read_within s c.loop-i.i _ _ r,
      front_more s c.loop-i.i c.loop-i.invariant.1 _ _ r (sym c.is_white.ensures ∙ c.if-is_white.true),
    )

pub returns-else-is_white : goal.returns-else-is_white
returns-else-is_white c =
    let read : IsChar c.args.line.now c.loop-i.i c.in-Char.cp c.in-Char.next =
    let d = c.decode in
    is-char _ _ d.result d.ensures _ _ c.in-Char.is in
    let s = c.args.line.now in
    let r = read in
    record {
      within = c.loop-i.invariant.0;
      text = front_stop s c.loop-i.i c.loop-i.invariant.1 _ _ r (sym c.is_white.ensures ∙ c.if-is_white.false);
    }

pub returns : goal.returns
returns c =
    record {
      within = c.loop-i.invariant.0;
      text = front_end c.args.line.now c.loop-i.i c.loop-i.invariant.1 c.loop-i-test.false;
    }
