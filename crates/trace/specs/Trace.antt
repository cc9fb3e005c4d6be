-- What a trace prints for a job whose picture is run: a line for each move, and then its end (rules 18.2 to 18.4). Assumes nothing.
use Rattle.std.specs.Prelude.{◌≡◌, false, List, [], ◌∷◌, ◌++◌, ℕ, suc, min, ◌-◌, length}
use Rattle.flow.specs.declared.PointerState.{PointerState}
use Rattle.picture.specs.Picture.{Picture}
use Rattle.machine.specs.Machine.{Given, RunRoom, Store, keeps, op_numbered, given_of}
use Rattle.machine.specs.Place.{start, End}
use Rattle.piet.specs.Moves.{FirstOpen}
use Rattle.piet.specs.Follows.{Move, doing, Walk, starts, moves}
use Rattle.piet.specs.RunPicture.{asked_picture}
use Rattle.job.specs.Encoding.{Content}
use Rattle.answer.specs.Program.{asked_of, run_room, Ran, Labels, Printed}
use Rattle.telling.specs.Line.{move_line}
use Rattle.telling.specs.Ending.{hidden_text, end_lines}

-- the lines of a walk through a picture: one for each move, in their order, with the label of the region left
module _ {p : Picture} {map : List ℕ} {g : Given} {room : RunRoom} where
  pub data Lines : (history : List Move) (r : ℕ) (m : Store) → Walk p map g room history r m → List ℕ → Type 0 where
    none : Lines [] 0 start.store starts []
    more : {history : List Move} {r target i : ℕ} {m m' : Store} {u : PointerState} {walk : Walk p map g room history r m}
        {unawaited : m.reading.awaiting ≡ false} {first : FirstOpen g.terms.edition p map r m.pointers target u i}
        {kept : doing p map g room r u i m ≡ keeps m'} {text label : List ℕ} → Lines history r m walk text → Labels p map r label
        → Lines (record { from = r; to = target; pointers = u; instruction = i } ∷ history) target m' (moves walk unawaited first kept)
        (text ++ move_line (suc (length history)) label (op_numbered i) m m')

-- the most moves that have a line
abbrev pub most_lines : ℕ
most_lines = 1000

-- the text of a job's run: the lines of its first moves (walks of one length are one walk), how many more there are, and its end
pub record Traced (c : Content) (text : List ℕ) : Type 0 where
  pub map : List ℕ
  pub end : End
  pub ran : Ran c map end
  pub history : List Move
  pub region : ℕ
  pub store : Store
  pub walk : Walk (asked_picture (asked_of c)) map (given_of (asked_of c).asks) run_room history region store
  pub first : length history ≡ min most_lines end.at.steps
  pub lines : List ℕ
  pub told : Lines history region store walk lines
  pub label : List ℕ
  pub labelled : Labels (asked_picture (asked_of c)) map end.at.region label
  pub is : text ≡ lines ++ hidden_text (end.at.steps - most_lines) ++ end_lines end.stop end.at.steps label end.at.store

-- the room that a trace is asked to have
abbrev pub trace_room : ℕ
trace_room = 524288

-- what a call answers and leaves
abbrev pub Outcome : List ℕ → List ℕ → ℕ → List ℕ → Type 0
Outcome = Printed Traced trace_room
