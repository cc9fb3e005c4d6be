-- `region::rows::begin_row` meets its contract: the first pixel's row and column are small, and four stores make the row. Assumes nothing.
use Rattle.region.specs.Steps.{begun}
use Rattle.region.proofs.rows.begin_row.Goals as goal

pub returns : goal.returns
unfolding begun
returns c = cc
