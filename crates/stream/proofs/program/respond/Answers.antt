-- `stream::program::respond`: an input that was read whole is answered as what the buffer holds of it. Assumes nothing.
use mathlib.Core.Path.{sym, ◌∙◌}
use Rattle.stream.specs.Responds.{answered}
use Rattle.stream.proofs.program.respond.Goals as goal

pub returns-clause-within : goal.returns-clause-within
returns-clause-within g c = g.met.P.Program.within _ _ _ _ c.say.ensures

pub returns-clause-says : goal.returns-clause-says
returns-clause-says g c =
    let said = c.say.ensures in
    answered (sym c.is_whole.ensures ∙ c.if-not-is_whole.false) (λ input h. g.met.P.Program.cut input _ _ _ (rw (h, ← c.requires.0) at said))
