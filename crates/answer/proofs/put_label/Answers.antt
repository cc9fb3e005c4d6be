-- `answer::put_label` meets its contract: a legal row is not refused a label.
-- Assumes nothing.
use Rattle.answer.proofs.Labelling.{label_given, label_starts}
use Rattle.answer.proofs.put_label.Goals as goal

pub unwrap-requires : goal.unwrap-requires
unwrap-requires c = label_given _ _ _ _ c.requires.0 c.requires.1 _ c.label.ensures

pub returns : goal.returns
returns c =
    label_starts _ _ _ _ c.requires.0 c.requires.1 (rw c.unwrap.ensures at c.label.ensures)
