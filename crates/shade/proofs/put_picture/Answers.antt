-- `shade::put_picture` meets its contract: the counts of as many codels as the shape says.
-- Assumes nothing.
use native.Mathlib.Omega.{arith}
use Rattle.shade.proofs.put_picture.Goals as goal

pub overflow_mul-s : goal.overflow_mul-s
overflow_mul-s c =
    rw c.shape_of-s.ensures (record { fits = omega (arith, c.requires.counts.roomy) })

pub put_counts-requires : goal.put_counts-requires
put_counts-requires c = rw c.shape_of-s.ensures c.requires.counts

pub returns : goal.returns
returns c = rw c.shape_of-s.ensures at c.put_counts.ensures.put
