-- A job has one text of counts: two outcomes that the contract of `shade` allows for one job are equal (`outcome_only`). Assumes
-- nothing.
use mathlib.Core.Path.{◌≡◌, sym, ap, subst, ◌∙◌}
use mathlib.Core.List.{List, [], ◌∷◌}
use Prim.Native.Nat.{ℕ}
use native.Mathlib.Omega.{arith}
use lib.ListN.{length}
use Rattle.base.specs.Numbers.{numbers}
use Rattle.picture.specs.Picture.{Picture, codels, Sound}
use Rattle.machine.specs.Machine.{Given, RunRoom, given_of}
use Rattle.machine.specs.Place.{End}
use Rattle.piet.specs.Follows.{Move, entered_by, Follows}
use Rattle.piet.specs.RunPicture.{asked_picture}
use Rattle.piet.proofs.FollowsOnly.{walk_only}
use Rattle.job.specs.Encoding.{Content}
use Rattle.answer.specs.Program.{asked_of, refusal_of, run_room, Ran}
use Rattle.answer.proofs.Ending.{enough}
use Rattle.answer.proofs.Only.{same_map, same_end, One, printed_only}
use Rattle.shade.specs.Shade.{counts_text, Shaded, uncounted, shaded, Outcome}

-- two walks of one picture to one end make the same moves
history_only : {p : Picture} {map map' : List ℕ} {e e' : End} → Sound p → length map ≡ codels p → map ≡ map' → e ≡ e' → (g : Given) (room : RunRoom)
    (F : Follows p map g room e) (G : Follows p map' g room e') → F.history ≡ G.history
history_only {p} {e' = e'} S long same end g room F =
    subst (λ (m : List ℕ). (G : Follows p m g room e') → F.history ≡ G.history) same
    (λ G. (walk_only S long g room F.walk G.walk (omega (arith, F.counted, G.counted, ap (λ (x : End). x.at.steps) end))).0)

-- one run of a job's picture enters one list of regions
module _ (c : Content) {map map' : List ℕ} {e e' : End} (h : refusal_of c ≡ numbers 0 (0 ∷ 0 ∷ [])) (A : Ran c map e) (B : Ran c map' e') where
  same_history : A.follows.history ≡ B.follows.history
  same_history = history_only (enough c h).sound A.long (same_map c h A B) (same_end c h A B) (given_of (asked_of c).asks) run_room A.follows B.follows

  same_text : let p = asked_picture (asked_of c) in counts_text p map (entered_by A.follows.history) (codels p) ≡ counts_text p map' (entered_by B.follows.history) (codels p)
  same_text =
      let p = asked_picture (asked_of c) in
      ap (λ (m : List ℕ). counts_text p m (entered_by A.follows.history) (codels p)) (same_map c h A B)
      ∙ ap (λ (moves : List Move). counts_text p map' (entered_by moves) (codels p)) same_history

shaded_only : One Shaded
shaded_only c h x y (uncounted l e) (uncounted k f) = e ∙ sym f
shaded_only c h x y (uncounted l e) (shaded n map end R f) = absurd (n l)
shaded_only c h x y (shaded n map end R e) (uncounted l f) = absurd (n l)
shaded_only c h x y (shaded n map end R e) (shaded m map' end' Q f) = e ∙ same_text c h R Q ∙ sym f

-- what `shade` answers and leaves is settled
pub outcome_only : {job before after after' : List ℕ} {r r' : ℕ} → Outcome job before r after → Outcome job before r' after'
    → (r ≡ r') × (after ≡ after')
outcome_only = printed_only shaded_only
