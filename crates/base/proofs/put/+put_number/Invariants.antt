-- The measure of `base::put::put_number` is the number: its last digit is written after those of a tenth of it.
-- Assumes nothing.
use Rattle.base.proofs.put.+put_number.Given as goal

abbrev pub decreases-put_number : goal.decreases-put_number
decreases-put_number l = l.n
