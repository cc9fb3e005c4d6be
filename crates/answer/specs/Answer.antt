-- What the run program prints for a job that it runs (rule 13.5). Assumes nothing.
use Rattle.std.specs.Prelude.{◌≡◌, List, ℕ}
use Rattle.machine.specs.Machine.{status_of}
use Rattle.machine.specs.Place.{End}
use Rattle.piet.specs.RunPicture.{asked_picture}
use Rattle.job.specs.Encoding.{Content}
use Rattle.report.specs.Text.{result_text}
use Rattle.answer.specs.Program.{asked_of, Ran, Labels, Printed}

-- status, steps, label, dp, cc, stack and outputs of an end
abbrev pub end_text : End → List ℕ → List ℕ
end_text e label =
    result_text (status_of e.stop) e.at.steps label e.at.store.pointers.dp e.at.store.pointers.cc e.at.store.stack
    e.at.store.outs

-- the text of where the run of the job's picture ends
pub record Result (c : Content) (text : List ℕ) : Type 0 where
  pub map : List ℕ
  pub end : End
  pub label : List ℕ
  pub ran : Ran c map end
  pub labelled : Labels (asked_picture (asked_of c)) map end.at.region label
  pub is : text ≡ end_text end label

-- what a call answers and leaves
abbrev pub Outcome : List ℕ → List ℕ → ℕ → List ℕ → Type 0
Outcome = Printed Result 16384
