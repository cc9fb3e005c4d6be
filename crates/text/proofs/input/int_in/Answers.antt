-- `text::input::int_in` meets its contract: at the end of the input, by a line that gives a number, by one that is skipped for a
-- reason, and by one that is not UTF-8.
-- Assumes nothing.
use Prim.Native.Nat.{ℕ, ◌-◌, ◌<◌}
use mathlib.Core.Path.{◌≡◌, refl, sym, ap, ◌∙◌}
use mathlib.Core.List.{List}
use native.Mathlib.Omega.{arith}
use borrow.Author.Rules.{rules}
use lib.ListN.{length, take, drop}
use Rattle.text.specs.Utf8.{Valid}
use Rattle.text.specs.Input.{int_of, whole_line}
use Rattle.std.specs.Prelude.{Ok}
use Rattle.text.proofs.LineLaws.{line_within, line_some}
use Rattle.text.proofs.InputLaws.{take_none, line_stays, take_skip, take_push, int-of}
use Rattle.text.proofs.input.int_in.Goals as goal

pub returns-then-input-at : goal.returns-then-input-at
unfolding int_of
returns-then-input-at c =
    let a = c.args in
    take_none a.input.now a.at c.if-input-at.true int_of whole_line refl (line_stays a.input.now a.at c.if-input-at.true)

pub returns-in-Ok : goal.returns-in-Ok
returns-in-Ok c =
    let line : List ℕ = take (c.line_end-end.result - c.args.at) (drop c.args.at c.args.input.now) in
    let valid : Valid line = rw c.if-is_utf8.true at c.is_utf8.ensures in
    let some_bytes : 0 < length line =
    let e = c.line_end-end in
    line_some c.args.input.now c.args.at e.result e.ensures c.if-input-at.false in
    let number : int_of valid.0 ≡ c.parse.result =
    let v = valid in
    let t = c.trim in
    int-of _ v.0 v.1 some_bytes t.result.now t.ensures c.parse.result c.parse.ensures in
    let v = valid in
    let a = c.args in
    take_push int_of whole_line a.input.now a.at c.line_end-end.result c.line_end-end.ensures v.0 v.1 c.line_end-end.result _
    (number ∙ c.in-Ok.is ∙ ap Ok (sym (search rules))) c.line_end-end.ensures

pub returns-in-Err : goal.returns-in-Err
returns-in-Err c =
    let line : List ℕ = take (c.line_end-end.result - c.args.at) (drop c.args.at c.args.input.now) in
    let valid : Valid line = rw c.if-is_utf8.true at c.is_utf8.ensures in
    let some_bytes : 0 < length line =
    let e = c.line_end-end in
    line_some c.args.input.now c.args.at e.result e.ensures c.if-input-at.false in
    let number : int_of valid.0 ≡ c.parse.result =
    let v = valid in
    let t = c.trim in
    int-of _ v.0 v.1 some_bytes t.result.now t.ensures c.parse.result c.parse.ensures in
    let v = valid in
    let a = c.args in
    take_skip int_of whole_line a.input.now a.at c.line_end-end.result c.line_end-end.ensures v.0 v.1 c.line_end-end.result
    c.in-Err.why (number ∙ c.in-Err.is) c.line_end-end.ensures

pub slice_bounds-line-end : goal.slice_bounds-line-end
slice_bounds-line-end c = omega (arith, line_within c.args.input.now c.args.at (omega arith))
