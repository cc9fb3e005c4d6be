use native.Mathlib.Omega.{arith}
use Rattle.text.specs.Utf8.{IsChar}
use Rattle.text.proofs.ValidLaws.{read_on, read_within, valid_more, valid_rest, valid_none, bad_never, is-char, else_tag, no_char}
use Rattle.text.proofs.utf8.is_utf8.Goals as goal

pub returns-in_default : goal.returns-in_default
returns-in_default c =
    let s = c.args.line.now in
    let d = c.decode in
    let none = no_char s c.loop-i.i d.result d.ensures (else_tag s c.loop-i.i d.result d.ensures c.in_default.not-Char) (omega arith) in
    λ v. bad_never s c.loop-i.i (omega arith) none (c.loop-i.invariant.1.0 v)

pub loop-i-smaller : goal.loop-i-smaller
loop-i-smaller c =
    let read : IsChar c.args.line.now c.loop-i.i c.in-Char.cp c.in-Char.next =
    let d = c.decode in
    is-char _ _ d.result d.ensures _ _ c.in-Char.is in
    omega (arith, read_on c.args.line.now c.loop-i.i _ _ read)

pub loop-i-preserved : goal.loop-i-preserved
loop-i-preserved c =
    let read : IsChar c.args.line.now c.loop-i.i c.in-Char.cp c.in-Char.next =
    let d = c.decode in
    is-char _ _ d.result d.ensures _ _ c.in-Char.is in
    let s = c.args.line.now in
    let r = read in (
      read_within s c.loop-i.i _ _ r,
      (λ v. valid_rest s c.loop-i.i _ _ r (c.loop-i.invariant.1.0 v), λ v. c.loop-i.invariant.1.1 (valid_more s c.loop-i.i _ _ r v)),
    )

pub returns : goal.returns
returns c =
    c.loop-i.invariant.1.1 (valid_none c.args.line.now c.loop-i.i c.loop-i-test.false)
