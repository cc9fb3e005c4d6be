-- `text::input::char_in` meets its contract: at the end of the input, within a line, by a line that has a character, and by one
-- that is not UTF-8. Where reading goes on is `after_char`'s to choose; within a line the edition is known by the `requires`.
-- Assumes nothing.
use Prim.Native.Nat.{ℕ, ◌-◌, ◌<◌}
use mathlib.Core.Path.{◌≡◌, refl, sym, ap, ◌∙◌}
use mathlib.Core.List.{List}
use native.Mathlib.Omega.{arith}
use lib.ListN.{length, take, drop}
use mir.Syntax.{w64}
use mir.ValLaws.{to_z_pos}
use Rattle.base.specs.declared.edition.Edition.TheVariants.{Page}
use Rattle.text.specs.Line.{line_at}
use Rattle.text.specs.Utf8.{Valid, IsChar}
use Rattle.text.specs.Input.{char_of, char_next}
use Rattle.std.specs.Prelude.{Ok}
use Rattle.text.proofs.ValidLaws.{is-char, else_tag, no_char, bad_never}
use Rattle.text.proofs.LineLaws.{line_within, line_some}
use Rattle.text.proofs.InputLaws.{take_none, char_stays, take_push, char_of_lem, char-next}
use Rattle.text.proofs.input.char_in.Goals as goal

pub returns-then-input-at : goal.returns-then-input-at
unfolding char_of
returns-then-input-at c =
    let a = c.args in
    take_none a.input.now a.at c.if-input-at.true char_of (char_next a.edition) refl
    (char_stays a.input.now a.at c.if-input-at.true a.edition)

pub returns-then-within_line : goal.returns-then-within_line
returns-then-within_line c =
    let within : (c.args.edition ≡ Page) × Valid (line_at c.args.input.now c.args.at) = c.requires c.if-input-at.false (sym c.within_line.ensures ∙ c.if-within_line.true) in
    rw within.0 c.char_within.ensures

-- never reached
pub returns-in_default : goal.returns-in_default
returns-in_default c =
    let line : List ℕ = take (c.line_end-end.result - c.args.at) (drop c.args.at c.args.input.now) in
    let valid : Valid line = rw c.if-is_utf8.true at c.is_utf8.ensures in
    let some_bytes : 0 < length line =
    let e = c.line_end-end in
    line_some c.args.input.now c.args.at e.result e.ensures c.if-input-at.false in
    let d = c.decode in
    let h = some_bytes in
    absurd (bad_never _ 0 h (no_char _ 0 d.result d.ensures (else_tag _ 0 d.result d.ensures c.in_default.not-Char) h) valid)

pub returns-in-Char : goal.returns-in-Char
returns-in-Char c =
    let line : List ℕ = take (c.line_end-end.result - c.args.at) (drop c.args.at c.args.input.now) in
    let valid : Valid line = rw c.if-is_utf8.true at c.is_utf8.ensures in
    let first : IsChar line 0 c.in-Char.cp c.in-Char.size =
    let d = c.decode in
    is-char _ 0 d.result d.ensures _ _ c.in-Char.is in
    let a = c.args in
    let v = valid in
    let k = first in
    take_push char_of (char_next a.edition) a.input.now a.at c.line_end-end.result c.line_end-end.ensures v.0 v.1
    c.after_char-next.result _
    (char_of_lem _ v.0 v.1 c.in-Char.cp c.in-Char.size k ∙ ap Ok (sym (to_z_pos w64 c.in-Char.cp (omega arith))))
    (c.after_char-next.ensures
    ∙ char-next _ v.0 v.1 c.in-Char.cp c.in-Char.size k a.edition a.input.now a.at c.line_end-end.result c.line_end-end.ensures)

pub slice_bounds-whole-end : goal.slice_bounds-whole-end
slice_bounds-whole-end c = omega (arith, line_within c.args.input.now c.args.at (omega (arith, c.if-input-at.false)))
