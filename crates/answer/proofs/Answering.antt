-- From what a run of a job's picture answers to what is printed. Assumes nothing.
use mathlib.Core.Path.{◌≡◌, refl, sym, ap, ◌∙◌}
use mathlib.Core.List.{List, [], ◌∷◌}
use Prim.Native.Nat.{ℕ, suc, ◌+◌, ◌≤◌}
use native.Mathlib.Omega.{arith}
use lib.ListN.{length, drop, length-append}
use Rattle.std.specs.Prelude.{Err}
use Rattle.base.specs.declared.refusal.Refusal.{Refusal}
use Rattle.base.specs.Numbers.{numbers}
use Rattle.base.specs.Refusal.{number_of_refusal}
use Rattle.base.specs.Lent.{Put, lent}
use Rattle.base.proofs.Over.{over_zero}
use Rattle.interpreter.specs.declared.Ended.{Ended}
use Rattle.machine.specs.Place.{End}
use Rattle.interpreter.specs.Outcome.{ended_of}
use Rattle.piet.specs.declared.run_picture.Pictured.{Pictured}
use Rattle.std.specs.Prelude.{Ok, Err}
use Rattle.base.specs.Refusal.{number_of_refusal, place_cells}
use Rattle.base.specs.declared.refusal.Refusal.{Refusal}
use Rattle.base.proofs.RefusalLaws.{number_suc}
use Rattle.piet.specs.RunPicture.{Asked, Lends, RanPicture}
use Rattle.piet.specs.RunPicture as running
use Rattle.job.specs.Encoding.{Content, IsJob}
use Rattle.job.specs.Outcome as reading
use Rattle.job.proofs.Only.{refused_none}
use Rattle.report.specs.Text.{refusal_text}
use Rattle.answer.specs.Program.{asked_of, refusal_of, Answers, no_job, refused, ran, Prints, Printed, short, printed}
use Rattle.answer.specs.Answer.{Result}
use Rattle.answer.specs.Printing.{lines_of, Printable}
use Rattle.answer.proofs.Ending.{Sized, same_refusal, labelled, printable, lines_are, ran_so}

-- the text at the start
pub prints : {Shows : Content → List ℕ → Type 0} {job before after text : List ℕ} {n : ℕ} → Answers Shows job text → Put before 0 text n after
    → Prints Shows job before n after
prints {before = before} {text = text} a p = record {
  text = text;
  answers = a;
  size = omega (arith, p.next);
  list = p.list ∙ over_zero before text;
}

-- the line of a refusal, where there is no job
pub prints_none : {Shows : Content → List ℕ → Type 0} {job before after : List ℕ} {e : Refusal} {n r : ℕ} → reading.Outcome job (Err e)
    → n ≡ number_of_refusal e → Put before 0 (refusal_text n) r after → Prints Shows job before r after
prints_none o m p =
    let (is, none) = refused_none o in
    prints (no_job none) (rw (m, is) at p)

-- a run that finished
pub record Finish (a : Asked) (l l' : Lends) (x : Ended) (n : ℕ) : Type 0 where
  pub end : End
  pub is : x ≡ ended_of end
  pub none : running.refusal_of a l ≡ numbers 0 (0 ∷ 0 ∷ [])
  pub runs : RanPicture a l l' end
  pub counted : runs.regions ≡ n

pub finish : {a : Asked} {l l' : Lends} {v : Pictured} → running.Outcome a l (Ok v) l' → Finish a l l' v.ended v.regions
finish (running.done {e} none R) = record { end = e; is = refl; none = none; runs = R; counted = refl }

-- a refusal's number
pub refusal_is : {a : Asked} {l l' : Lends} {r : Refusal} → running.Outcome a l (Err r) l'
    → (k : ℕ) × (v : List ℕ) × (number_of_refusal r ≡ suc k) × (running.refusal_of a l ≡ numbers (suc k) v)
refusal_is (running.refused r e) =
    let s = number_suc r in
    (s.0, place_cells r, s.1, sym e ∙ ap (λ (k : ℕ). numbers k (place_cells r)) s.1)

module _ {job : List ℕ} (c : Content) (j : IsJob job c) {l l' : Lends} (s : Sized l) where
  pub prints_refusal : {Shows : Content → List ℕ → Type 0} {k : Refusal} {r : ℕ} {before after : List ℕ} → running.Outcome (asked_of c) l (Err k) l' → Put before 0 (refusal_text (number_of_refusal k)) r after
      → Prints Shows job before r after
  prints_refusal o p =
      let (k, v, e, h) = refusal_is o in
      prints (rw e (refused c j k v (sym (same_refusal c s) ∙ h))) p

  module _ (s' : Sized l') {x : Pictured} (o : running.Outcome (asked_of c) l (Ok x) l') where
    f : Finish (asked_of c) l l' x.ended x.regions
    f = finish o

    none : refusal_of c ≡ numbers 0 (0 ∷ 0 ∷ [])
    none = sym (same_refusal c s) ∙ f.none

    pub printable_end : (room : ℕ) → 16384 ≤ room → Printable room x.ended l'.rows l'.run.stack l'.run.kinds l'.run.values
    printable_end room h = rw f.is (printable c s s' none f.runs room h)

    pub prints_end : {before after : List ℕ} {r : ℕ} → Put before 0 (lines_of x.ended l'.rows l'.run.stack l'.run.kinds l'.run.values) r after
        → Prints Result job before r after
    prints_end p =
        prints
        (ran c j none (record {
          map = _;
          end = f.end;
          label = _;
          ran = ran_so c s s' none f.runs;
          labelled = labelled c s s' none f.runs f.end.at.region f.runs.inside;
          is = refl;
        }))
        (rw (f.is, lines_are c s s' none f.runs) at p)

-- the text lies in what is lent, so that a caller may take that part
pub answer_within : {Shows : Content → List ℕ → Type 0} {room : ℕ} {job before after : List ℕ} {r : ℕ} → Printed Shows room job before r after → r ≤ length after
unfolding lent
answer_within (short h e f) = omega arith
answer_within {before = before} {after = after} (printed h P) =
    let l : length after ≡ length P.text + length (drop (length P.text) before) =
    ap length P.list ∙ length-append P.text (drop (length P.text) before) in
    omega (arith, P.size)
