use Prim.Native.Nat.{◌+◌}
use mathlib.Core.Path.{◌≡◌, sym, ◌∙◌}
use native.Mathlib.Omega.{arith}
use Rattle.text.proofs.DecodeLaws.{carries, no_tail, no_char_at, Gathers, all_of, number_small, tail_needed, same_number, reads_long, no_scalar}
use Rattle.text.proofs.utf8.decode_long.Goals as goal

pub returns-in_default : goal.returns-in_default
returns-in_default c =
    let t = c.tail_at in
    let i = c.loop-i.i in
    let s = c.args.s.now in
    let at = c.args.at in
    no_char_at s at c.requires.0
    (λ k st.
    let n = tail_needed s at c.args.high c.requires.1 k st i (omega arith) in
    no_tail s (at + (i + 1)) t.result t.ensures c.in_default.is n.0 n.1)

pub returns-then-cp-least : goal.returns-then-cp-least
returns-then-cp-least c =
    let whole : let a = c.args in Gathers a.s.now a.at a.high a.more c.loop-i.cp =
    let a = c.args in
    let e : c.loop-i.i ≡ a.more = omega arith in
    all_of a.s.now a.at a.high c.loop-i.cp c.loop-i.i a.more e c.loop-i.invariant in
    let s = c.args.s.now in
    let at = c.args.at in
    no_char_at s at c.requires.0
    (λ k st. let n = same_number s at c.args.high c.loop-i.cp c.requires.1 whole k st in omega (arith, c.if-cp-least.true))

pub returns-then-is_scalar : goal.returns-then-is_scalar
returns-then-is_scalar c =
    let whole : let a = c.args in Gathers a.s.now a.at a.high a.more c.loop-i.cp =
    let a = c.args in
    let e : c.loop-i.i ≡ a.more = omega arith in
    all_of a.s.now a.at a.high c.loop-i.cp c.loop-i.i a.more e c.loop-i.invariant in
    reads_long c.args.s.now c.args.at c.args.high c.loop-i.cp c.requires.1 whole c.if-cp-least.false
    (sym c.is_scalar.ensures ∙ c.if-is_scalar.true)

pub returns : goal.returns
returns c =
    let whole : let a = c.args in Gathers a.s.now a.at a.high a.more c.loop-i.cp =
    let a = c.args in
    let e : c.loop-i.i ≡ a.more = omega arith in
    all_of a.s.now a.at a.high c.loop-i.cp c.loop-i.i a.more e c.loop-i.invariant in
    no_scalar c.args.s.now c.args.at c.args.high c.loop-i.cp c.requires.0 c.requires.1 whole
    (sym c.is_scalar.ensures ∙ c.if-is_scalar.false)

pub overflow_mul-cp : goal.overflow_mul-cp
overflow_mul-cp c =
    let a = c.args in
    omega (arith, number_small a.s.now a.at a.high c.requires.1 c.loop-i.i c.loop-i.cp (omega arith) c.loop-i.invariant)

pub overflow_add-cp : goal.overflow_add-cp
overflow_add-cp c =
    let a = c.args in
    let t = c.tail_at in
    let x = carries _ _ t.result t.ensures c.in-Some.x c.in-Some.is in
    omega (arith, number_small a.s.now a.at a.high c.requires.1 c.loop-i.i c.loop-i.cp (omega arith) c.loop-i.invariant)
