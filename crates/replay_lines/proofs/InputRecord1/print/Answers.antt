-- `replay_lines::InputRecord1::print` reads from the start of the input, where a line begins. Assumes nothing.
use Rattle.text.proofs.Judging.{judged_start}
use Rattle.replay_lines.proofs.InputRecord1.print.Goals as goal

pub char_in-requires : goal.char_in-requires
char_in-requires g c = judged_start _ _
