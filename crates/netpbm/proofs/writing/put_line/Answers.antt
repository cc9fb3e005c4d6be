-- `netpbm::writing::put_line` meets its contract: the digits and then the newline.
-- Assumes nothing.
use mathlib.Core.List.{[], ◌∷◌}
use Rattle.base.specs.Text.{decimal}
use Rattle.netpbm.specs.File.{line}
use Rattle.base.proofs.Over.{room_front, room_back, put_then}
use Rattle.netpbm.proofs.writing.put_line.Goals as goal

pub put_number-next-requires : goal.put_number-next-requires
unfolding line
put_number-next-requires c =
    let the-args = c.args in
    room_front (decimal the-args.n) (10 ∷ []) c.requires

pub put_word-requires : goal.put_word-requires
unfolding line
put_word-requires c =
    let the-args = c.args in
    let the-put-number = c.put_number-next in
    room_back (decimal the-args.n) (10 ∷ []) c.requires the-put-number.ensures

pub returns : goal.returns
unfolding line
returns c =
    let the-put-number = c.put_number-next in
    let the-put-word = c.put_word in
    put_then c.requires the-put-number.ensures the-put-word.ensures
