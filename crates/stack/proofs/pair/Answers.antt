-- `stack::pair` meets its contract: the two uppermost cells go, and what `combine` gave comes. Assumes nothing.
use Rattle.std.proofs.Common.{Option, ◌≡◌, sym, ap, ◌∙◌}
use Prim.Native.Nat.{◌-◌}
use lib.ListN.{get_or}
use lib.IntN.{ℤ, pos}
use Rattle.word.proofs.Signed.{back}
use Rattle.word.specs.Word.{values}
use Rattle.stack.specs.Instr.{combined}
use Rattle.stack.proofs.Cells.{few, left, gone}
use Rattle.stack.proofs.pair.Goals as goal

pub returns-then-depth-lt2 : goal.returns-then-depth-lt2
returns-then-depth-lt2 c = few _ _ _ _ c.if-depth-lt2.true c.requires

pub returns-in_default : goal.returns-in_default
returns-in_default c =
    let top : ℤ = get_or c.args.stack.now (c.args.depth - 1) (pos 0) in
    let second : ℤ = get_or c.args.stack.now (c.args.depth - 2) (pos 0) in
    let Combined : Option ℤ → Type 0 = λ r. combined c.args.edition c.args.op second top ≡ values r in
    let combined-is : Combined c.combine.result =
    let a = back top c.a-1.given in
    let b = back second c.b-1.given in
    sym (rw (a, b) at c.combine.ensures) in
    gone _ _ c.if-depth-lt2.false (combined-is ∙ ap values c.in_default.is)
    c.undo.ensures

pub returns : goal.returns
returns c =
    let top : ℤ = get_or c.args.stack.now (c.args.depth - 1) (pos 0) in
    let second : ℤ = get_or c.args.stack.now (c.args.depth - 2) (pos 0) in
    let Combined : Option ℤ → Type 0 = λ r. combined c.args.edition c.args.op second top ≡ values r in
    let combined-is : Combined c.combine.result =
    let a = back top c.a-1.given in
    let b = back second c.b-1.given in
    sym (rw (a, b) at c.combine.ensures) in
    let w = back c.in-Some.v c.in-Some.known_told-1-own.given.0.1 in
    left _ _ c.if-depth-lt2.false (combined-is ∙ ap values c.in-Some.is) (rw w at c.replace.ensures)
