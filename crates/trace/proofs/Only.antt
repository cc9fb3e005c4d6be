-- A job has one trace: two outcomes that the contract of `trace` allows for one job are equal (`outcome_only`). Assumes nothing.
use mathlib.Core.Path.{◌≡◌, refl, sym, ap, subst, ◌∙◌}
use mathlib.Core.List.{List, [], ◌∷◌, ◌++◌}
use Prim.Native.Nat.{ℕ, suc, min, ◌-◌}
use native.Mathlib.Omega.{arith}
use lib.ListN.{length}
use Rattle.picture.specs.Picture.{Picture, codels, Sound}
use Rattle.machine.specs.Machine.{Given, RunRoom, Store, given_of, op_numbered}
use Rattle.machine.specs.Place.{End}
use Rattle.piet.specs.Follows.{Move, Walk}
use Rattle.piet.specs.RunPicture.{asked_picture}
use Rattle.piet.proofs.FollowsOnly.{walk_only}
use Rattle.job.specs.Encoding.{Content}
use Rattle.answer.specs.Program.{asked_of, run_room, Labels}
use Rattle.answer.proofs.Ending.{enough}
use Rattle.answer.proofs.Only.{labels_only, same_map, same_end, same_label, One, printed_only}
use Rattle.telling.specs.Line.{move_line}
use Rattle.telling.specs.Ending.{hidden_text, end_lines}
use Rattle.trace.specs.Trace.{Lines, none, more, most_lines, Traced, Outcome}

-- the instruction of the latest move
abbrev latest : List Move → ℕ
latest [] = 0
latest (v ∷ history) = v.instruction

module _ {p : Picture} {map : List ℕ} (S : Sound p) (L : length map ≡ codels p) (g : Given) (room : RunRoom) where
  -- walks of one length have the same lines
  lines_only : {h h' : List Move} {r r' : ℕ} {m m' : Store} {w : Walk p map g room h r m} {w' : Walk p map g room h' r' m'} {x y : List ℕ}
      → length h ≡ length h' → Lines h r m w x → Lines h' r' m' w' y → x ≡ y
  lines_only e none none = refl
  lines_only e none (more t l) = absurd (omega arith)
  lines_only e (more t l) none = absurd (omega arith)
  lines_only {w = w} {w'} e (more {history = h} {r = r} {walk = v} t l) (more {history = h'} {walk = v'} {label = label'} t' l') =
      let shorter : length h ≡ length h' = omega arith in
      let before = walk_only S L g room v v' shorter in
      let after = walk_only S L g room w w' e in
      let op = ap latest after.0 in
      let text = lines_only shorter t t' in
      let label = labels_only l (subst (λ (k : ℕ). Labels p map k label') (sym before.1) l') in
      λ j. text j ++ move_line (suc (shorter j)) (label j) (op_numbered (op j)) (before.2 j) (after.2 j)

-- the lines of the first moves of a job's run
record First (c : Content) (map : List ℕ) (moves : ℕ) (text : List ℕ) : Type 0 where
  history : List Move
  region : ℕ
  store : Store
  walk : Walk (asked_picture (asked_of c)) map (given_of (asked_of c).asks) run_room history region store
  first : length history ≡ moves
  told : Lines history region store walk text

told : {c : Content} {text : List ℕ} (t : Traced c text) → First c t.map (min most_lines t.end.at.steps) t.lines
told t = record { history = t.history; region = t.region; store = t.store; walk = t.walk; first = t.first; told = t.told }

traced_only : One Traced
traced_only c h x y A B =
    let S = (enough c h).sound in
    let map = same_map c h A.ran B.ran in
    let end = same_end c h A.ran B.ran in
    let label = same_label c h A.ran B.ran A.labelled B.labelled in
    let a = told A in
    let b = subst (λ (m : List ℕ). First c m (min most_lines B.end.at.steps) B.lines) (sym map) (told B) in
    let many : length a.history ≡ length b.history = a.first ∙ ap (λ (e : End). min most_lines e.at.steps) end ∙ sym b.first in
    let lines = lines_only S A.ran.long (given_of (asked_of c).asks) run_room many a.told b.told in
    A.is
    ∙ (λ j. lines j ++ hidden_text ((end j).at.steps - most_lines) ++ end_lines (end j).stop (end j).at.steps (label j) (end j).at.store)
    ∙ sym B.is

-- what `trace` answers and leaves is settled
pub outcome_only : {job before after after' : List ℕ} {r r' : ℕ} → Outcome job before r after → Outcome job before r' after'
    → (r ≡ r') × (after ≡ after')
outcome_only = printed_only traced_only
