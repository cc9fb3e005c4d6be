-- `machine::output::char_out` meets its contract. Assumes nothing.
use mathlib.Core.Path.{◌≡◌, refl, sym, ap, ◌∙◌}
use mathlib.Core.List.{[], ◌∷◌}
use mathlib.Core.Bool.{true, false}
use Prim.Native.Nat.{◌-◌, ◌^◌, ◌<◌}
use native.Mathlib.Omega.{arith}
use lib.ListN.{get_or}
use lib.IntN.{ℤ, pos}
use mir.Syntax.{w64}
use mir.Facts.{to_z_pos}
use Rattle.word.specs.Word.{residue}
use Rattle.word.proofs.Signed.{back}
use Rattle.text.specs.Utf8.{scalar}
use Rattle.machine.specs.Output.{char, char_out, Puts}
use Rattle.machine.proofs.Emitting.{top_is, kept, nothing, same_top, empty_kept}
use Rattle.machine.proofs.output.char_out.Goals as goal

pub returns-then-depth-eq0 : goal.returns-then-depth-eq0
unfolding Puts
returns-then-depth-eq0 c = empty_kept _ c.if-depth-eq0.true c.requires.lies c.requires.holds

pub returns-then-is_scalar : goal.returns-then-is_scalar
unfolding char
returns-then-is_scalar c =
    let top : ℤ = get_or c.args.stack.now (c.args.depth - 1) (pos 0) in
    let bits_are : c.low32-u.result ≡ residue top (2 ^ 32) = rw (back top c.low32-arg-1.given) at c.low32-u.ensures in
    let r = c.put_out in
    let a = c.args in
    let u = residue top (2 ^ 32) in
    let told : scalar u ≡ true =
    ap scalar (sym bits_are) ∙ sym c.is_scalar.ensures
    ∙ c.if-is_scalar.true in
    let e : char_out top ≡ record { kind = 1; value = pos u } ∷ [] = rw told refl in
    let some : 0 < a.depth = omega arith in
    same_top char_out (λ _. record { kind = 1; value = pos u } ∷ []) a.stack.now a.depth a.kinds.now a.values.now a.n
    r.new.stack r.new.kinds r.new.values r.result
    (top_is char_out a.stack.now a.depth some ∙ e
    ∙ sym (top_is (λ _. record { kind = 1; value = pos u } ∷ []) a.stack.now a.depth some))
    (rw (to_z_pos w64 {n = c.low32-u.result} (omega (arith, c.low32-u.type_inv)), bits_are) at r.ensures)

pub returns : goal.returns
unfolding Puts char
returns c =
    let top : ℤ = get_or c.args.stack.now (c.args.depth - 1) (pos 0) in
    let bits_are : c.low32-u.result ≡ residue top (2 ^ 32) = rw (back top c.low32-arg-1.given) at c.low32-u.ensures in
    let told : scalar (residue top (2 ^ 32)) ≡ false =
    ap scalar (sym bits_are) ∙ sym c.is_scalar.ensures ∙ c.if-is_scalar.false in
    kept char_out (top_is char_out c.args.stack.now c.args.depth (omega arith) ∙ rw told refl) c.pop.ensures
    (nothing c.requires.holds)
