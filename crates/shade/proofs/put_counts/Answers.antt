use mathlib.Core.Path.{◌≡◌}
use Prim.Native.Nat.{◌+◌, ◌*◌, ◌<◌}
use native.Mathlib.Omega.{arith}
use lib.ListN.{length, get_or}
use Rattle.report.proofs.Writing.{put_none, wrote, widen, wrote_length, wrote_room, wrote_then}
use Rattle.shade.specs.Counted.{cells_text}
use Rattle.shade.proofs.Texts.{cells_turn}
use Rattle.shade.proofs.put_counts.Goals as goal

pub loop-i-init : goal.loop-i-init
unfolding cells_text
loop-i-init c = (omega arith, wrote (put_none _ _) 0 (omega arith))

pub overflow_cast-region : goal.overflow_cast-region
overflow_cast-region c =
    let region_in : let a = c.args in get_or a.map.now c.loop-i.i 0 < length a.visits.now = c.requires.counted c.loop-i.i c.loop-i-test.true in
    omega (arith, region_in)

pub offset_bounds-visits-region : goal.offset_bounds-visits-region
offset_bounds-visits-region c =
    let region_in : let a = c.args in get_or a.map.now c.loop-i.i 0 < length a.visits.now = c.requires.counted c.loop-i.i c.loop-i-test.true in
    omega (arith, region_in)

pub bounds-visits-region : goal.bounds-visits-region
bounds-visits-region c =
    let region_in : let a = c.args in get_or a.map.now c.loop-i.i 0 < length a.visits.now = c.requires.counted c.loop-i.i c.loop-i-test.true in
    region_in

pub put_codel-next-requires : goal.put_codel-next-requires
put_codel-next-requires c =
    let a = c.args in
    let l = c.loop-i in
    let h = c.requires.roomy in
    let k = l.invariant.0 in
    let t = c.loop-i-test.true in
    wrote_room 21 l.invariant.1 (omega arith)

pub loop-i-preserved : goal.loop-i-preserved
loop-i-preserved c =
    let a = c.args in
    let l = c.loop-i in
    let h = c.requires.roomy in
    let k = l.invariant.0 in
    let t = c.loop-i-test.true in (
      omega arith,
      widen (rw (cells_turn a.map.now a.visits.now a.cols l.i) at (wrote_then l.invariant.1 c.put_codel-next.ensures (omega arith))) (21 * (l.i + 1)) (omega arith),
    )

pub shape_of-out : goal.shape_of-out
shape_of-out c =
    let a = c.args in
    let l = c.loop-i in
    let h = c.requires.roomy in
    let k = l.invariant.0 in
    wrote_length l.invariant.1 (omega arith)

pub returns : goal.returns
returns c =
    let a = c.args in
    let l = c.loop-i in
    let k = l.invariant.0 in
    let z : l.i ≡ a.codels = omega (arith, c.loop-i-test.false) in
    rw z at l.invariant.1
