-- A job has one answer: where a program shows one text for each run, two texts that `Answers` allows for one list of bytes are equal,
-- and so are two outcomes of a call (`printed_only`); of the run program `outcome_only`.
-- Assumes nothing.
use mathlib.Core.Path.{◌≡◌, refl, sym, ap, subst, ◌∙◌}
use mathlib.Core.List.{List, [], ◌∷◌}
use Prim.Native.Nat.{ℕ, suc, ◌*◌, ◌/◌, ◌%◌}
use native.Mathlib.Omega.{arith}
use lib.ListN.{length}
use lib.Seq.{ext_get_or}
use Rattle.base.specs.Lent.{lent}
use Rattle.base.specs.Numbers.{numbers}
use Rattle.base.proofs.Refusals as refusing
use Rattle.colour.specs.Label.{label_of}
use Rattle.picture.specs.Picture.{Picture, cols_of, codels, codel_colour}
use Rattle.region.specs.Grid.{grid_of}
use Rattle.region.proofs.MapLaws.{unique}
use Rattle.region.proofs.RowLaws.{first_one}
use Rattle.machine.specs.Machine.{given_of}
use Rattle.machine.specs.Place.{End}
use Rattle.piet.specs.RunPicture.{asked_picture}
use Rattle.piet.proofs.FollowsOnly.{picture_only}
use Rattle.job.specs.Encoding.{Content}
use Rattle.job.proofs.Only.{content_only}
use Rattle.report.specs.Text.{refusal_text}
use Rattle.answer.specs.Program.{asked_of, refusal_of, run_room, Ran, Labels, Answers, no_job, refused, ran, Printed, short, printed}
use Rattle.answer.specs.Answer.{Result, Outcome}
use Rattle.answer.proofs.Ending.{enough}

pub labels_only : {p : Picture} {map : List ℕ} {r : ℕ} {x y : List ℕ} → Labels p map r x → Labels p map r y → x ≡ y
labels_only {p} {map} {r} u v =
    u.is
    ∙ ap (λ (i : ℕ). label_of (codel_colour p i) (i / cols_of p * p.codel) (i % cols_of p * p.codel)) (first_one map (codels p) r u.first v.first u.is_first v.is_first)
    ∙ sym v.is

-- one run of a job's picture
module _ (c : Content) {map map' : List ℕ} {e e' : End} (h : refusal_of c ≡ numbers 0 (0 ∷ 0 ∷ [])) (A : Ran c map e) (B : Ran c map' e') where
  pub same_map : map ≡ map'
  same_map =
      ext_get_or 0 map map' (A.long ∙ sym B.long)
      (λ i k. (unique (grid_of (asked_picture (asked_of c))) map map' A.regions B.regions A.numbered B.numbered).0 i (omega (arith, A.long)))

  pub same_end : e ≡ e'
  same_end = picture_only (enough c h).sound A.long B.long A.numbered B.numbered (given_of (asked_of c).asks) run_room A.follows B.follows

  pub same_label : {x x' : List ℕ} → Labels (asked_picture (asked_of c)) map e.at.region x → Labels (asked_picture (asked_of c)) map' e'.at.region x' → x ≡ x'
  same_label {x} {x'} l l' =
      labels_only l
      (subst (λ (m : List ℕ). Labels (asked_picture (asked_of c)) m e.at.region x') (sym same_map)
      (subst (λ (y : End). Labels (asked_picture (asked_of c)) map' y.at.region x') (sym same_end) l'))

-- one text for a job that is run
abbrev pub One : (Content → List ℕ → Type 0) → Type 0
One Shows = (c : Content) → refusal_of c ≡ numbers 0 (0 ∷ 0 ∷ []) → (x y : List ℕ) → Shows c x → Shows c y → x ≡ y

module _ {Shows : Content → List ℕ → Type 0} (one : One Shows) {job : List ℕ} where
  pub answers_only : {x y : List ℕ} → Answers Shows job x → Answers Shows job y → x ≡ y
  answers_only (no_job a) (no_job b) = refl
  answers_only (no_job a) (refused d j k v h) = absurd (a d j)
  answers_only (no_job a) (ran d j h B) = absurd (a d j)
  answers_only (refused c i k v g) (no_job b) = absurd (b c i)
  answers_only (refused c i k v g) (refused d j l w h) =
      let z : numbers (suc k) v ≡ numbers (suc l) w = sym g ∙ ap refusal_of (content_only i j) ∙ h in
      let n : suc k ≡ suc l = cc in
      ap refusal_text n
  answers_only (refused c i k v g) (ran d j h B) = absurd (refusing.refused k v _ (sym g ∙ ap refusal_of (content_only i j) ∙ h))
  answers_only (ran c i g A) (no_job b) = absurd (b c i)
  answers_only (ran c i g A) (refused d j l w h) = absurd (refusing.refused l w _ (sym h ∙ ap refusal_of (content_only j i) ∙ g))
  answers_only {x} {y} (ran c i g A) (ran d j h B) = one c g x y A (subst (λ (z : Content). Shows z y) (content_only j i) B)

  -- what a call answers and leaves is settled
  pub printed_only : {room : ℕ} {before after after' : List ℕ} {r r' : ℕ} → Printed Shows room job before r after → Printed Shows room job before r' after'
      → (r ≡ r') × (after ≡ after')
  printed_only (short h e f) (short k g i) = (e ∙ sym g, f ∙ sym i)
  printed_only (short h e f) (printed k P) = absurd (omega arith)
  printed_only (printed h P) (short k e f) = absurd (omega arith)
  printed_only {before = before} (printed h P) (printed k Q) =
      let e = answers_only P.answers Q.answers in
      (P.size ∙ ap length e ∙ sym Q.size, P.list ∙ ap (λ (x : List ℕ). lent x before) e ∙ sym Q.list)

result_only : One Result
result_only c h x y A B =
    A.is
    ∙ (rw (same_end c h A.ran B.ran, same_label c h A.ran B.ran A.labelled B.labelled) (refl))
    ∙ sym B.is

-- what `answer` answers and leaves is settled
pub outcome_only : {job before after after' : List ℕ} {r r' : ℕ} → Outcome job before r after → Outcome job before r' after'
    → (r ≡ r') × (after ≡ after')
outcome_only = printed_only result_only
