-- From what is told over a table to what is told of the picture: the steps told are the moves of a walk. Assumes nothing.
use mathlib.Core.Path.{◌≡◌, refl, sym, subst}
use mathlib.Core.List.{List, [], ◌∷◌, ◌++◌}
use Prim.Native.Nat.{ℕ, suc, ◌<◌}
use native.Mathlib.Omega.{arith}
use lib.ListN.{length, get_or}
use Rattle.colour.specs.Palette.{white}
use Rattle.picture.specs.Picture.{Picture, Sound}
use Rattle.table.specs.ExitNumber.{target_of}
use Rattle.machine.specs.Machine.{Given, RunRoom}
use Rattle.machine.specs.Place.{Machine}
use Rattle.interpreter.specs.Table.{op_of}
use Rattle.interpreter.specs.Run.{Job, goes, exit_from, step_of}
use Rattle.interpreter.proofs.Histories.{step_kept}
use Rattle.piet.specs.Follows.{Move, Walk, starts, moves}
use Rattle.piet.specs.Decoded.{move_by}
use Rattle.piet.proofs.Bridge.{Tabled}
use Rattle.piet.proofs.Following.{Stands, step_moves, step_walks, stands_first}
use Rattle.answer.specs.Program.{Labels}
use Rattle.answer.specs.Printing.{label_in}
use Rattle.telling.specs.Line.{move_line}
use Rattle.trace.specs.Trace as trace
use Rattle.trace.specs.Trace.{Lines}
use Rattle.trace.specs.Told.{step_line, Told, none, more}

module _ {p : Picture} {map rows exits : List ℕ} {n : ℕ} (S : Sound p) (g : Given) (B : Tabled g.terms.edition p map rows exits n) (room : RunRoom)
    (W : get_or p.colours 0 0 ≡ white → ⊥) (labelled : (r : ℕ) → r < n → Labels p map r (label_in rows r)) where
  abbrev job : Job
  job = record { rows = rows; exits = exits; given = g; room = room }

  -- where a run stands that is told: the picture is walked to there, and the text has the walk's lines
  pub record Walked (m : Machine) (text : List ℕ) : Type 0 where
    pub history : List Move
    pub stands : Stands S g B room history m
    pub counted : m.steps ≡ length history
    pub walk : Walk p map g room history m.region m.store
    pub lines : Lines history m.region m.store walk text

  walked_on : {m m' : Machine} {text : List ℕ} → Walked m text → step_of job m ≡ goes m' → Walked m' (text ++ step_line job m m')
  walked_on {m} {m'} {text} s e =
      let k = step_kept job m m' e in
      let v = step_moves S g B room s.stands k in
      let x = exit_from job m in
      let label = label_in rows m.region in
      let history = move_by m.region x ∷ s.history in
      let steps : suc (length s.history) ≡ m'.steps = omega (arith, k.counted, s.counted) in
      let here : (w : Walk p map g room history (target_of x) m'.store)
      × Lines history (target_of x) m'.store w (text ++ move_line (suc (length s.history)) label (op_of x) m.store m'.store) =
      (moves s.walk k.unawaited v.first v.kept, trace.more s.lines (labelled m.region s.stands.inside)) in
      let there =
      subst (λ (r : ℕ). (w : Walk p map g room history r m'.store) × Lines history r m'.store w (text ++ move_line m'.steps label (op_of x) m.store m'.store)) (sym k.region)
      (subst (λ (i : ℕ). (w : Walk p map g room history (target_of x) m'.store) × Lines history (target_of x) m'.store w (text ++ move_line i label (op_of x) m.store m'.store)) steps here) in
      record {
        history = history;
        stands = step_walks S g B room s.stands k;
        counted = sym steps;
        walk = there.0;
        lines = there.1;
      }

  pub told_walks : {m : Machine} {text : List ℕ} → Told job m text → Walked m text
  told_walks none = record { history = []; stands = stands_first S g B room W; counted = refl; walk = starts; lines = trace.none }
  told_walks (more t e) = walked_on (told_walks t) e
