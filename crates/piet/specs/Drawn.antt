-- Inner: what building and running leave, one after the other, of colours that building does not refuse. Assumes nothing.
use Rattle.std.specs.Prelude.{◌≡◌, ℕ, Result, Ok, Err}
use Rattle.picture.specs.Picture.{picture}
use Rattle.base.specs.declared.refusal.Refusal.{Refusal}
use Rattle.cfg.specs.Build as building
use Rattle.machine.specs.Machine.{Asks}
use Rattle.interpreter.specs.declared.Ended.{Ended}
use Rattle.interpreter.specs.Outcome as running
use Rattle.piet.specs.declared.run_picture.Pictured.{Pictured}
use Rattle.piet.specs.RunPicture.{Lends}

-- the answer of a run over n regions as that of a picture
abbrev pub pictured_of : ℕ → Result Ended Refusal → Result Pictured Refusal
pictured_of n (Ok e) = Ok (record { ended = e; regions = n })
pictured_of n (Err r) = Err r

pub record Draws (height width codel : ℕ) (a : Asks) (l : Lends) (r : Result Pictured Refusal) (l' : Lends) : Type 0 where
  pub regions : ℕ
  pub built : building.Outcome a.edition (picture height width codel l.colours) l.map l.rows l.exits l.work (Ok regions)
      l'.map l'.rows l'.exits l'.work
  pub answer : Result Ended Refusal
  pub is : r ≡ pictured_of regions answer
  pub ran : running.Outcome regions l'.rows l'.exits a l.run answer l'.run
