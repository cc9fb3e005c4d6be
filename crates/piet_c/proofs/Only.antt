-- Two outcomes that a call from C may have for one input are one, where what the call makes is. Assumes nothing.
use mathlib.Core.Path.{◌≡◌, refl, ap, sym, ◌∙◌}
use mathlib.Core.List.{List}
use Prim.Native.Nat.{ℕ, ◌<◌, ◌≤◌}
use native.Mathlib.Omega.{arith}
use Rattle.base.specs.Lent.{lent}
use Rattle.base.specs.Numbers.{Numbers, number_of, values_of}
use Rattle.machine.specs.Machine.{Asks}
use Rattle.machine.specs.Held.{Slices}
use Rattle.interpreter.specs.Outcome as running
use Rattle.interpreter.proofs.Only.{run_only, recorded_only}
use Rattle.visits.specs.Outcome as visiting
use Rattle.visits.proofs.Only.{visits_only}
use Rattle.piet_c.specs.Exported.{Exported, short, made}
use Rattle.piet_c.specs.Calls.{ClassifyCall, LabelCall, BuildCall, TableRoom, RunCall, Recording, HistoryCall, VisitsCall, ForeverCall, picture_cells, padded, PictureCall, ReadP6Call, WriteP6Call}
use Rattle.picture.specs.Picture.{Picture}
use Rattle.colour.proofs.Only.{classify_only, label_only}
use Rattle.colour.specs.Classify as classifying
use Rattle.colour.specs.Label as labelling
use Rattle.cfg.specs.Build as building
use Rattle.cfg.proofs.Refusing.{outcome_only}
use Rattle.std.specs.Prelude.{Result}
use Rattle.base.specs.declared.refusal.Refusal.{Refusal}
use Rattle.piet.specs.declared.run_picture.Pictured.{Pictured}
use Rattle.piet.specs.RunPicture as picturing
use Rattle.piet.specs.RunPicture.{Asked, Lends}
use Rattle.piet.proofs.Only.{run_picture_only}
use Rattle.netpbm.specs.Reads as reading
use Rattle.netpbm.specs.Writes as writing
use Rattle.netpbm.proofs.Only.{read_only, write_only}

-- what a call makes is determined
abbrev pub Settles : {S : Type 0} → (Numbers → S → Type 0) → Type 0
Settles {S} Makes = (n n' : Numbers) (s s' : S) → Makes n s → Makes n' s' → (n ≡ n') × (s ≡ s')

over : {A : Type 0} {k m : ℕ} → k < m → m ≤ k → A
over {k = k} {m = m} h l = absurd (no h l)
  where
    no : k < m → m ≤ k → ⊥
    no h l = omega arith

pub exported_only : {S : Type 0} {Makes : Numbers → S → Type 0} {need : ℕ} {before after after' : S} {answer a a' : List ℕ} {r r' : ℕ} → Settles Makes
    → Exported need Makes before answer r after a → Exported need Makes before answer r' after' a' → (r ≡ r') × (after ≡ after') × (a ≡ a')
exported_only d (short h e f g) (short h' e' f' g') = (e ∙ sym e', f ∙ sym f', g ∙ sym g')
exported_only d (short h e f g) (made n h' m e' g') = over h h'
exported_only d (made n h m e g) (short h' e' f' g') = over h' h
exported_only {answer = answer} d (made n h m e g) (made n' h' m' e' g') =
    let s = d n n' _ _ m m' in
    (e ∙ ap number_of s.0 ∙ sym e', s.1, g ∙ ap (λ (x : Numbers). lent (values_of x) answer) s.0 ∙ sym g')

pub classifies : (pixels : List ℕ) (height width setting : ℕ) (colours : List ℕ) → Settles (ClassifyCall pixels height width setting colours)
classifies pixels height width setting colours n n' s s' (r, e, o) (r', e', o') =
    let d = classify_only o o' in (sym e ∙ ap classifying.numbered d.0 ∙ e', d.1)

pub labels : (colour row column : ℕ) (out : List ℕ) → Settles (LabelCall colour row column out)
labels colour row column out n n' s s' (r, e, o) (r', e', o') =
    let d = label_only o o' in (sym e ∙ ap labelling.numbered d.0 ∙ e', d.1)

same_room : {s s' : TableRoom} → s.map ≡ s'.map → s.rows ≡ s'.rows → s.exits ≡ s'.exits → s.work ≡ s'.work → s ≡ s'
same_room a b c d = λ i. record { map = a i; rows = b i; exits = c i; work = d i }

pub builds : (edition : ℕ) (p : Picture) (s : TableRoom) → Settles (BuildCall edition p s)
builds edition p s n n' t t' (r, e, o) (r', e', o') =
    let d = outcome_only o o' in
    (sym e ∙ ap building.numbered d.answer ∙ e', same_room d.map_same d.rows_same d.exits_same d.work_same)

pub runs : (k : ℕ) (rows exits : List ℕ) (a : Asks) (l : Slices) → Settles (RunCall k rows exits a l)
runs k rows exits a l n n' s s' (r, e, o) (r', e', o') =
    let d = run_only k rows exits a l o o' in
    (sym e ∙ ap running.numbered d.0 ∙ e', d.1)

pub histories : (k : ℕ) (rows exits : List ℕ) (a : Asks) (l : Recording) → Settles (HistoryCall k rows exits a l)
histories k rows exits a l n n' s s' (r, e, o) (r', e', o') =
    let d = recorded_only k rows exits a l.run l.taken o o' in
    (sym e ∙ ap running.numbered d.0 ∙ e', λ i. record { run = d.1 i; taken = d.2 i })

pub visits : (k : ℕ) (rows exits : List ℕ) (a : Asks) (l : visiting.Lends) → Settles (VisitsCall k rows exits a l)
visits k rows exits a l n n' s s' (r, e, o) (r', e', o') =
    let d = visits_only k rows exits a l o o' in
    (sym e ∙ ap visiting.numbered d.0 ∙ e', d.1)

pub tells : (k : ℕ) (rows exits : List ℕ) → Settles (ForeverCall k rows exits)
tells k rows exits n n' s s' (r, e, o) (r', e', o') = (sym e ∙ o ∙ sym o' ∙ e', refl)

pub pictures : (a : Asked) (l : Lends) → Settles (PictureCall a l)
pictures a l n n' s s' (r, e, o) (r', e', o') =
    let d = run_picture_only o o' in
    (sym e ∙ ap (λ (x : Result Pictured Refusal). padded picture_cells (picturing.numbered x)) d.0 ∙ e', d.1)

pub reads_p6 : (file pixels : List ℕ) → Settles (ReadP6Call file pixels)
reads_p6 file pixels n n' s s' (r, e, o) (r', e', o') =
    let d = read_only o o' in (sym e ∙ ap reading.numbered d.0 ∙ e', d.1)

pub writes_p6 : (pixels : List ℕ) (height width : ℕ) (file : List ℕ) → Settles (WriteP6Call pixels height width file)
writes_p6 pixels height width file n n' s s' (r, e, o) (r', e', o') =
    let d = write_only o o' in (sym e ∙ ap writing.numbered d.0 ∙ e', d.1)
