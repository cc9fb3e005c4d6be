use mathlib.Core.Bool.{Bool}
use mathlib.Core.Path.{◌≡◌, sym, ap, ◌∙◌}
use Prim.Native.Nat.{ℕ}
use native.Mathlib.Omega.{arith}
use lib.ListN.{get_or}
use Rattle.interpreter.specs.Table.{any, wrong_exit}
use Rattle.interpreter.proofs.ValidLaws.{any_none, any_more, any_yes, wrong_by_cell}
use Rattle.table.specs.Layout.{exits_room}
use Rattle.interpreter.proofs.validity.any_wrong_exit.Goals as goal

pub loop-i-init : goal.loop-i-init
loop-i-init c = any_none _

pub bounds-exits-i : goal.bounds-exits-i
bounds-exits-i c =
    let the-exits-room = c.exits_room-room in
    omega (arith, the-exits-room.ensures)

pub returns-then-wrong_exit : goal.returns-then-wrong_exit
returns-then-wrong_exit c =
    let the-args = c.args in
    let the-loop = c.loop-i in
    let the-exits-room = c.exits_room-room in
    let f : ℕ → Bool = λ k. wrong_exit the-args.largest the-args.n (get_or the-args.exits.now k 0) in
    sym
    (sym (wrong_by_cell the-args.largest the-args.n the-args.exits.now)
    ∙ any_yes f the-loop.i (exits_room the-args.n) (omega (arith, the-exits-room.ensures))
    (sym c.wrong_exit.ensures ∙ c.if-wrong_exit.true))

pub loop-i-preserved : goal.loop-i-preserved
loop-i-preserved c =
    let the-args = c.args in
    let the-loop = c.loop-i in
    let f : ℕ → Bool = λ k. wrong_exit the-args.largest the-args.n (get_or the-args.exits.now k 0) in
    any_more f the-loop.i (sym c.wrong_exit.ensures ∙ c.if-wrong_exit.false) the-loop.invariant

pub returns : goal.returns
returns c =
    let the-args = c.args in
    let the-exits-room = c.exits_room-room in
    let f : ℕ → Bool = λ k. wrong_exit the-args.largest the-args.n (get_or the-args.exits.now k 0) in
    let e : c.loop-i.i ≡ exits_room the-args.n = omega (arith, the-exits-room.ensures, c.loop-i.auto.i-end, c.loop-i-test.false) in
    sym (sym (wrong_by_cell the-args.largest the-args.n the-args.exits.now) ∙ ap (any f) (sym e) ∙ c.loop-i.invariant)
