-- `stack::turn` meets its contract: its exchanges are those of its three calls. Assumes nothing.
use mathlib.Core.Path.{sym}
use Rattle.stack.proofs.Exchanging.{three}
use Rattle.stack.proofs.turn.Goals as goal

pub returns : goal.returns
returns c =
    let e₁ = c.reverse.ensures in
    let e₂ = c.reverse-2.ensures in
    let e₃ = c.reverse-3.ensures in
    rw (e₃, e₂, e₁) (sym (three c.args.depth c.args.n c.args.k c.args.stack.now))
