-- `stack::pop_two` meets its contract. Assumes nothing.
use Rattle.stack.proofs.Cells.{then, pop_pop}
use Rattle.stack.proofs.pop_two.Goals as goal

pub returns : goal.returns
returns c =
    let p = c.pop-d.ensures in
    then p c.pop.ensures pop_pop
