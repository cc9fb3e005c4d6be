-- `report::put_int` meets its contract: a sign where the number is below 0, and its size.
-- Assumes nothing.
use mathlib.Core.Path.{◌≡◌}
use mathlib.Core.Bool.{true, false}
use mathlib.Core.List.{◌++◌}
use Prim.Native.Nat.{ℕ}
use native.Mathlib.Omega.{arith}
use borrow.Author.Tests.{ltb-true}
use lib.IntN.{ℤ, pos, negsuc, nat_abs}
use lib.Signed.{lt_z}
use mir.Syntax.{w64}
use mir.ValLaws.{to_z-of_z}
use Rattle.base.specs.Text.{ascii, decimal}
use Rattle.report.specs.Text.{int}
use Rattle.base.proofs.Over.{room_front, room_back, put_then}
use Rattle.report.proofs.put_int.Goals as goal

-- a number below 0 is written with a sign, and no other
signed : (v : ℤ) (n : ℕ) → lt_z v (pos 0) ≡ true → n ≡ nat_abs v → int v ≡ ascii "-" ++ decimal n
unfolding int
signed (pos k) n e h = absurd (omega (arith, ltb-true k 0 e))
signed (negsuc k) n e h = rw h

unsigned : (v : ℤ) (n : ℕ) → lt_z v (pos 0) ≡ false → n ≡ nat_abs v → int v ≡ decimal n
unfolding int
unsigned (pos k) n e h = rw h
unsigned (negsuc k) n e h = absurd (let z : ◌≡◌ {A = ℕ} 0 1 = cc in omega arith)

pub put_word-next-requires : goal.put_word-next-requires
put_word-next-requires c =
    let below : int c.args.v ≡ ascii "-" ++ decimal c.abs-n.result =
    let e = to_z-of_z w64 c.args.v c.ranges.v in
    signed c.args.v c.abs-n.result (rw e at c.if-v-lt0.true) (rw e at c.abs-n.ensures) in
    let h = rw below at c.requires in
    room_front (ascii "-") (decimal c.abs-n.result) h

pub put_number-requires : goal.put_number-requires
put_number-requires c =
    let below : int c.args.v ≡ ascii "-" ++ decimal c.abs-n.result =
    let e = to_z-of_z w64 c.args.v c.ranges.v in
    signed c.args.v c.abs-n.result (rw e at c.if-v-lt0.true) (rw e at c.abs-n.ensures) in
    let h = rw below at c.requires in
    room_back (ascii "-") (decimal c.abs-n.result) h c.put_word-next.ensures

pub returns-then-v-lt0 : goal.returns-then-v-lt0
returns-then-v-lt0 c =
    let below : int c.args.v ≡ ascii "-" ++ decimal c.abs-n.result =
    let e = to_z-of_z w64 c.args.v c.ranges.v in
    signed c.args.v c.abs-n.result (rw e at c.if-v-lt0.true) (rw e at c.abs-n.ensures) in
    let h = rw below at c.requires in
    rw below (put_then h c.put_word-next.ensures c.put_number.ensures)

pub put_number-requires-2 : goal.put_number-requires-2
put_number-requires-2 c =
    let above : int c.args.v ≡ decimal c.abs-n.result =
    let e = to_z-of_z w64 c.args.v c.ranges.v in
    unsigned c.args.v c.abs-n.result (rw e at c.if-v-lt0.false) (rw e at c.abs-n.ensures) in
    rw above at c.requires

pub returns : goal.returns
returns c =
    let above : int c.args.v ≡ decimal c.abs-n.result =
    let e = to_z-of_z w64 c.args.v c.ranges.v in
    unsigned c.args.v c.abs-n.result (rw e at c.if-v-lt0.false) (rw e at c.abs-n.ensures) in
    rw above c.put_number-2.ensures
