-- `stack::replace` meets its contract. Assumes nothing.
use native.Mathlib.Omega.{arith}
use mir.Facts.{to_z-of_z}
use Rattle.stack.proofs.Cells.{then, pop_depth, drop_pop}
use Rattle.stack.proofs.replace.Goals as goal

pub put-requires : goal.put-requires
put-requires c =
    let p = c.pop-d.ensures in
    record { lies = p.lies; depth_nonzero = omega (arith, pop_depth (omega arith) p) }

pub returns : goal.returns
returns c =
    let p = c.pop-d.ensures in
    then p (rw (to_z-of_z c.ranges.v) at c.put.ensures) (drop_pop c.args.v)
