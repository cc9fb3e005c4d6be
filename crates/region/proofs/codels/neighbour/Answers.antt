-- `region::codels::neighbour` meets its contract, way by way (`Ways`). Assumes nothing.
use mathlib.Core.Path.{◌≡◌}
use native.Mathlib.Omega.{arith}
use Rattle.region.proofs.Ways.{right, right_none, down, down_none, left, left_none, up, up_none}
use Rattle.region.proofs.codels.neighbour.Goals as goal

pub returns-then-col-cols : goal.returns-then-col-cols
returns-then-col-cols c =
    let the-pre = c.requires in
    rw c.in-0.is (right the-pre.i_bound c.if-col-cols.true)

pub returns-else-col-cols : goal.returns-else-col-cols
returns-else-col-cols c =
    let the-pre = c.requires in
    rw c.in-0.is (right_none the-pre.i_bound c.if-col-cols.false)

pub returns-then-i-cols : goal.returns-then-i-cols
returns-then-i-cols c =
    let the-pre = c.requires in
    rw c.in-1.is (down the-pre.i_bound c.if-i-cols.true)

pub returns-else-i-cols : goal.returns-else-i-cols
returns-else-i-cols c =
    let the-pre = c.requires in
    rw c.in-1.is (down_none the-pre.i_bound c.if-i-cols.false)

pub returns-then-col-gt0 : goal.returns-then-col-gt0
returns-then-col-gt0 c =
    let the-pre = c.requires in
    rw c.in-2.is (left the-pre.i_bound c.if-col-gt0.true)

pub returns-else-col-gt0 : goal.returns-else-col-gt0
returns-else-col-gt0 c =
    let the-pre = c.requires in
    rw c.in-2.is (left_none the-pre.i_bound c.if-col-gt0.false)

pub returns-then-cols-i : goal.returns-then-cols-i
returns-then-cols-i c =
    let the-args = c.args in
    let the-pre = c.requires in
    let last : the-args.way ≡ 3 = omega arith in
    rw last (up the-pre.i_bound c.if-cols-i.true)

pub returns-else-cols-i : goal.returns-else-cols-i
returns-else-cols-i c =
    let the-args = c.args in
    let the-pre = c.requires in
    let last : the-args.way ≡ 3 = omega arith in
    rw last (up_none the-pre.i_bound c.if-cols-i.false)
