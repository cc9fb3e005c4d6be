-- `answer::label_region` meets its contract: three cells of the region's row.
-- Assumes nothing.
use Rattle.answer.proofs.label_region.Goals as goal

pub put_label-requires : goal.put_label-requires
put_label-requires c =
    rw (c.row_cell.ensures, c.row_cell-2.ensures, c.row_cell-3.ensures)
    (c.requires.0.legal, c.requires.1)

pub returns : goal.returns
returns c =
    rw (c.row_cell.ensures, c.row_cell-2.ensures, c.row_cell-3.ensures) at
    c.put_label.ensures
