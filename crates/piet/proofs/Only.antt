-- The contract of `run_picture` settles its answer and every lent list:
--     run_picture_only       two outcomes that it allows for one input are one
--     run_picture_refusal    it is refused exactly as the table of refusals says, and then nothing changes
-- Assumes nothing.
use mathlib.Core.Path.{◌≡◌, refl, sym, ap, ◌∙◌}
use mathlib.Core.List.{[], ◌∷◌}
use lib.ListN.{length}
use Rattle.base.specs.Numbers.{number_of}
use Rattle.cfg.specs.Build as building
use Rattle.cfg.proofs.Refusing as table
use Rattle.machine.specs.Machine.{given_of}
use Rattle.machine.specs.Place.{End}
use Rattle.machine.specs.Held.{room_of}
use Rattle.interpreter.specs.Outcome.{slices_of, ended_of}
use Rattle.piet.specs.declared.run_picture.Pictured.{Pictured}
use Rattle.std.specs.Prelude.{Result, Ok, Err}
use Rattle.base.specs.Refusal.{place_cells}
use Rattle.base.specs.declared.refusal.Refusal as refusals
use Rattle.base.proofs.RefusalLaws.{never_done, number_some, same_refusal}
use Rattle.piet.specs.RunPicture.{Asked, Lends, asked_picture, refusal_of, numbered, RanPicture, Outcome, refused, done}
use Rattle.piet.proofs.Refusing.{accepted}
use Rattle.piet.proofs.FollowsOnly.{picture_only}

same_lends : {l l' : Lends} → l.colours ≡ l'.colours → l.map ≡ l'.map → l.rows ≡ l'.rows → l.exits ≡ l'.exits → l.work ≡ l'.work
    → l.run ≡ l'.run → l ≡ l'
same_lends a b c d e f = λ i. record { colours = a i; map = b i; rows = c i; exits = d i; work = e i; run = f i }

pub run_picture_only : {a : Asked} {l l' l'' : Lends} {r r' : Result Pictured refusals.Refusal} → Outcome a l r l' → Outcome a l r' l'' → (r ≡ r') × (l' ≡ l'')
run_picture_only (refused r e) (refused r' e') = (ap Err (same_refusal r r' (e ∙ sym e')), refl)
run_picture_only (refused r e) (done e' R') = absurd (never_done r (place_cells r) (0 ∷ 0 ∷ []) (e ∙ e'))
run_picture_only (done e R) (refused r e') = absurd (never_done r (place_cells r) (0 ∷ 0 ∷ []) (e' ∙ e))
run_picture_only {a} {l} (done {e = end} e R) (done {e = end'} e' R') =
    let A = accepted a l (0 ∷ 0 ∷ []) (sym e) in
    let S = table.accepted a.asks.edition (asked_picture a) (length l.map) (length l.rows) (length l.exits) (length l.work) (0 ∷ 0 ∷ []) (sym A.builds) in
    let T = table.outcome_only (building.done A.builds R.table) (building.done A.builds R'.table) in
    let B = R.table.builds in
    let B' = R'.table.builds in
    let z : end ≡ end' = picture_only S.sound B.map_long B'.map_long B.regions B'.regions (given_of a.asks) (room_of l.run) R.follows R'.follows in
    let same = T.answer in
    let n : R.regions ≡ R'.regions = cc in (
      λ i. Ok (record { ended = ended_of (z i); regions = n i }),
      same_lends (R.colours ∙ sym R'.colours) T.map_same T.rows_same T.exits_same T.work_same
          (R.run ∙ ap (λ (x : End). slices_of l.run x.at.store) z ∙ sym R'.run),
    )

-- the number is that of the table of refusals; where it is not 0, the place is the table's too and no lent cell changes;
-- where it is 0, the call runs the picture to an end
pub record Refusal (a : Asked) (l : Lends) (r : Result Pictured refusals.Refusal) (l' : Lends) : Type 0 where
  pub number : number_of (numbered r) ≡ number_of (refusal_of a l)
  pub place : (number_of (refusal_of a l) ≡ 0 → ⊥) → numbered r ≡ refusal_of a l
  pub unchanged : (number_of (refusal_of a l) ≡ 0 → ⊥) → l' ≡ l
  pub runs : number_of (refusal_of a l) ≡ 0 → (e : End) × (R : RanPicture a l l' e) × (r ≡ Ok (record { ended = ended_of e; regions = R.regions }))

pub run_picture_refusal : {a : Asked} {l l' : Lends} {r : Result Pictured refusals.Refusal} → Outcome a l r l' → Refusal a l r l'
run_picture_refusal {a} {l} (refused r e) = record {
  number = ap number_of e;
  place = λ _. e;
  unchanged = λ _. refl;
  runs = λ z. absurd (number_some r (ap number_of e ∙ z));
}
run_picture_refusal {a} {l} (done {e = end} e R) = record {
  number = sym (ap number_of e);
  place = λ some. absurd (some (ap number_of e));
  unchanged = λ some. absurd (some (ap number_of e));
  runs = λ _. (end, R, refl);
}
