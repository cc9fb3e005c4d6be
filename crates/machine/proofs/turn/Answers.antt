-- `machine::turn` meets its contract. Assumes nothing.
use native.Mathlib.Omega.{arith}
use Rattle.word.proofs.Signed.{back}
use Rattle.machine.proofs.Executing.{unturned, turned}
use Rattle.machine.proofs.turn.Goals as goal

pub returns-then-depth-eq0 : goal.returns-then-depth-eq0
returns-then-depth-eq0 g c =
    λ f by kinds values h.
    unturned c.args.stack.now kinds values c.args.at (record { lies = c.requires.lies; holds = h; valid = c.requires.valid }) f
    c.if-depth-eq0.true

pub returns : goal.returns
returns g c =
    λ f by kinds values h.
    let q = c.pop-d in
    let some = c.if-depth-eq0.false in
    turned c.args.stack.now kinds values c.args.at (record { lies = c.requires.lies; holds = h; valid = c.requires.valid }) f by.0
    q.new.stack q.result c.by.result q.ensures q.auto.stack (omega (arith, some))
    (by.1 _ _ (rw (back _ c.n-1.given) at c.by.ensures))
