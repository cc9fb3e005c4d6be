-- `exit::page_slide::noted` meets its contract: a constructor of `Noted` for each arm. Assumes nothing.
use Rattle.exit.specs.Watched.{here, still}
use Rattle.exit.proofs.page_slide.noted.Goals as goal

pub returns-then-w : goal.returns-then-w
returns-then-w c = here c.if-w.true

pub returns : goal.returns
returns c = still c.if-w.false
