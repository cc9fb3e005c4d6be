-- A call's answer, by the first of its tests that refuses it.
--     test_call              which one that is, or none
--     refuses, finishes      what the call answers and leaves is its outcome
--     refused, finished      and the other way round: what its outcome says
-- Assumes nothing.
use mathlib.Core.Path.{◌≡◌, refl, sym, ap, ◌∙◌}
use mathlib.Core.Bool.{Bool, true, false}
use mathlib.Core.List.{List, [], ◌∷◌, ◌++◌}
use Prim.Native.Nat.{ℕ}
use native.Mathlib.Omega.{arith}
use borrow.Author.Tests.{not-false, not-true}
use lib.Dec.{eqb}
use lib.ListN.{length, get_or, replicate}
use Rattle.base.specs.Counting.{count}
use Rattle.base.specs.Edition.{unknown_edition, edition_of}
use Rattle.base.specs.Numbers.{Numbers, numbers, first, unless_refused, values_of}
use Rattle.base.proofs.Clash.{clash}
use Rattle.machine.specs.Machine.{Asks, given_of}
use Rattle.machine.specs.Place.{start}
use Rattle.interpreter.specs.Table.{wrong_table, valid_of}
use Rattle.interpreter.specs.History.{regions_of}
use Rattle.interpreter.specs.Outcome.{ended_of, result_of, refused_in, job_of}
use Rattle.interpreter.proofs.Histories.{run_history}
use Rattle.visits.specs.declared.Visited.{Visited}
use Rattle.std.specs.Prelude.{Result, Ok, Err, Option, Some, None}
use Rattle.base.specs.Refusal.{number_of_refusal}
use Rattle.base.specs.declared.refusal.Refusal.{Refusal}
use Rattle.base.specs.declared.refusal.Refusal.TheVariants.{Edition, Table, Limit, Room}
use Rattle.base.proofs.RefusalLaws.{Placeless, past_places, refused_only, never_done, kept}
use Rattle.visits.specs.Visits.{unvisited_of}
use Rattle.visits.specs.Outcome.{Lends, visit_cells, uncountable, too_short, numbered, end, Entering, answer, done_with, left_of, Outcome}

module _ (n : ℕ) (rows exits : List ℕ) (a : Asks) (l : Lends) where
  -- the refusal that a call is given, or none
  pub data Tested : Option Refusal → Type 0 where
    unknown : unknown_edition a.edition ≡ true → Tested (Some Edition)
    wrong : unknown_edition a.edition ≡ false → valid_of (edition_of a.edition) n rows exits ≡ false → Tested (Some Table)
    endless : unknown_edition a.edition ≡ false → valid_of (edition_of a.edition) n rows exits ≡ true → eqb a.limit uncountable ≡ true → Tested (Some Limit)
    short : unknown_edition a.edition ≡ false → valid_of (edition_of a.edition) n rows exits ≡ true → eqb a.limit uncountable ≡ false
        → too_short n l ≡ true → Tested (Some Room)
    right : unknown_edition a.edition ≡ false → valid_of (edition_of a.edition) n rows exits ≡ true → eqb a.limit uncountable ≡ false
        → too_short n l ≡ false → Tested None

  pub test_call : (k : Option Refusal) × Tested k
  test_call = edition (unknown_edition a.edition) refl
    where
      room : unknown_edition a.edition ≡ false → valid_of (edition_of a.edition) n rows exits ≡ true → eqb a.limit uncountable ≡ false
          → (t : Bool) → too_short n l ≡ t → (k : Option Refusal) × Tested k
      room u v m true s = (Some Room, short u v m s)
      room u v m false s = (None, right u v m s)

      limit : unknown_edition a.edition ≡ false → valid_of (edition_of a.edition) n rows exits ≡ true
          → (t : Bool) → eqb a.limit uncountable ≡ t → (k : Option Refusal) × Tested k
      limit u v true m = (Some Limit, endless u v m)
      limit u v false m = room u v m (too_short n l) refl

      table : unknown_edition a.edition ≡ false → (t : Bool) → valid_of (edition_of a.edition) n rows exits ≡ t → (k : Option Refusal) × Tested k
      table u true v = limit u v (eqb a.limit uncountable) refl
      table u false v = (Some Table, wrong u v)

      edition : (t : Bool) → unknown_edition a.edition ≡ t → (k : Option Refusal) × Tested k
      edition true u = (Some Edition, unknown u)
      edition false u = table u (valid_of (edition_of a.edition) n rows exits) refl

  module _ (entered : List ℕ) where
    abbrev pub missed : ℕ
    missed = length (unvisited_of n rows (λ r. count r entered))

    abbrev told : Option Refusal → Numbers
    told None = numbers 0 (result_of (ended_of (end n rows exits a l)) ++ (missed ∷ []))
    told (Some r) = refused_in visit_cells (number_of_refusal r)

    -- the answer by the tests
    by_tests : {k : Option Refusal} → Tested k → answer n rows exits a l entered ≡ told k
    unfolding first
    by_tests (unknown u) = rw u refl
    by_tests (wrong u v) = rw (u, not-false (wrong_table (edition_of a.edition) n rows exits) v) refl
    by_tests (endless u v m) = rw (u, not-true (wrong_table (edition_of a.edition) n rows exits) v, m) refl
    by_tests (short u v m s) = rw (u, not-true (wrong_table (edition_of a.edition) n rows exits) v, m, s) refl
    by_tests (right u v m s) = rw (u, not-true (wrong_table (edition_of a.edition) n rows exits) v, m, s) refl

    left_by : {k : Option Refusal} → Tested k → left_of n rows exits a l entered ≡ unless_refused (told k) (done_with n rows exits a l entered) l
    left_by t = ap (λ (x : Numbers). unless_refused x (done_with n rows exits a l entered) l) (by_tests t)

  abbrev enters : Entering n rows exits a l → List ℕ
  enters h = regions_of start h.exits

  pub refuses : {r : Refusal} → Tested (Some r) → Outcome n rows exits a l (Err r) l
  unfolding numbered
  refuses {r} t =
      let h = run_history (job_of rows exits (given_of a) l.run) a.limit start in
      record { history = h; answers = sym (by_tests (enters h) t); ends = λ v x. clash cc; leaves = sym (left_by (enters h) t ∙ kept r _ _ _) }

  pub finishes : {v : Visited} {l' : Lends} → Tested None → (h : Entering n rows exits a l) → v.ended ≡ ended_of (end n rows exits a l) → v.unvisited ≡ missed (enters h)
      → l' ≡ done_with n rows exits a l (enters h) → Outcome n rows exits a l (Ok v) l'
  unfolding numbered
  finishes {v} t h p q o = record {
    history = h;
    answers = rw (p, q) (sym (by_tests (enters h) t));
    ends = λ x y. same y ∙ p;
    leaves = o ∙ sym (left_by (enters h) t);
  }
    where
      same : {x : Visited} → ◌≡◌ {A = Result Visited Refusal} (Ok v) (Ok x) → x.ended ≡ v.ended
      same {x = x} y = let z : v ≡ x = cc in ap (λ (w : Visited). w.ended) (sym z)

  -- no refusal of the call names a place
  abbrev Unplaced : Option Refusal → Type 0
  Unplaced None = Unit {0}
  Unplaced (Some r) = Placeless (number_of_refusal r)

  unplaced : {k : Option Refusal} → Tested k → Unplaced k
  unplaced (unknown u) = past_places (omega arith)
  unplaced (wrong u v) = past_places (omega arith)
  unplaced (endless u v m) = past_places (omega arith)
  unplaced (short u v m s) = (λ e. omega arith, λ e. omega arith)
  unplaced (right u v m s) = tt

  module _ {r : Result Visited Refusal} {l' : Lends} (o : Outcome n rows exits a l r l') where
    pub refused : {s : Refusal} → Tested (Some s) → (r ≡ Err s) × (l' ≡ l)
    unfolding numbered
    refused {s} t = (
      refused_only (λ v. result_of v.ended ++ (v.unvisited ∷ [])) (λ k. replicate visit_cells 0) s _ (unplaced t) r (o.answers ∙ by_tests (enters o.history) t),
      o.leaves ∙ left_by (enters o.history) t ∙ kept s _ _ _,
    )

    pub finished : Tested None → (r ≡ Ok (record { ended = ended_of (end n rows exits a l); unvisited = missed (enters o.history) })) × (l' ≡ done_with n rows exits a l (enters o.history))
    unfolding numbered
    finished t = (named r refl (o.answers ∙ by_tests (enters o.history) t), o.leaves ∙ left_by (enters o.history) t)
      where
        named : (x : Result Visited Refusal) → r ≡ x → numbered x ≡ told (enters o.history) None
            → x ≡ Ok (record { ended = ended_of (end n rows exits a l); unvisited = missed (enters o.history) })
        named (Err k) q h = absurd (never_done k _ _ h)
        named (Ok v) q h = λ i. Ok (record { ended = o.ends v q i; unvisited = ap (λ (x : Numbers). get_or (values_of x) 12 0) h i })
