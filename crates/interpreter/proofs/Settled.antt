-- What the slices hold at the end is what the definition says of every cell. Assumes nothing.
use mathlib.Core.Path.{◌≡◌, refl, sym, ap, ap₂, ◌∙◌, subst}
use mathlib.Core.List.{List, [], ◌∷◌, ◌++◌, map, map-append, reverse, reverse-cons}
use Prim.Native.Nat.{ℕ, zero, suc, ◌+◌, ◌-◌, ◌<◌, ◌≤◌}
use native.Mathlib.Omega.{arith}
use lib.ListN.{length, get_or, take, drop, replicate, length-drop, length-replicate, get_or-replicate, take-append-drop}
use lib.Seq.{take-suc, ext_get_or, get_or-drop}
use lib.IntN.{ℤ, pos}
use Rattle.stack.specs.Stack.{stack_of, Lies}
use Rattle.stack.proofs.Cells.{stack_of_length}
use Rattle.text.proofs.Judging.{judged_start}
use Rattle.machine.specs.declared.Core.{Core}
use Rattle.machine.specs.declared.Stop.{Stop}
use Rattle.machine.specs.Output.{Emit, outs_of, Holds}
use Rattle.machine.specs.Machine.{Given, JudgedIn}
use Rattle.machine.specs.Place.{Machine, End, start}
use Rattle.machine.specs.Held.{Slices, slices, store_of, Stands}
use Rattle.machine.proofs.Only.{AsLong}
use Rattle.machine.proofs.Emitting.{outs_length}
use Rattle.interpreter.specs.Run.{run_of}
use Rattle.interpreter.specs.Outcome.{cells_of, kinds_of, values_of, slices_of, place_of, ended_of, job_of, end_of}
use Rattle.interpreter.specs.Resume.{machine_of, Reaches, Placed}
use Rattle.interpreter.specs.Moving.{Begun}
use Rattle.interpreter.specs.declared.State.{State}
use Rattle.interpreter.specs.declared.Ended.{Ended}
use Rattle.interpreter.proofs.Clearing.{replicated}
use Rattle.interpreter.proofs.RunLaws.{same_job}
use Rattle.interpreter.proofs.Histories.{run_judged}

-- clean cells to the end
module _ {A : Type 0} (z : A) (c : List A) (d : ℕ) where
  clean : ((i : ℕ) → d ≤ i → get_or c i z ≡ z) → drop d c ≡ replicate (length c - d) z
  clean h =
      ext_get_or z (drop d c) (replicate (length c - d) z) (length-drop d c ∙ sym (length-replicate (length c - d) z))
      (λ i l. get_or-drop d c i z ∙ h (d + i) (omega arith) ∙ sym (get_or-replicate (length c - d) i z z (omega (arith, length-drop d c))))

  whole : (f : List A) → f ≡ take d c → ((i : ℕ) → d ≤ i → get_or c i z ≡ z) → c ≡ f ++ replicate (length c - d) z
  whole f e h = sym (take-append-drop d c) ∙ ap₂ ◌++◌ (sym e) (clean h)

bottom_up : (c : List ℤ) (d : ℕ) → d ≤ length c → reverse (stack_of c d) ≡ take d c
unfolding stack_of
bottom_up c zero h = refl
bottom_up c (suc d) h =
    reverse-cons (get_or c d (pos 0)) (stack_of c d)
    ∙ ap (λ (l : List ℤ). l ++ (get_or c d (pos 0) ∷ [])) (bottom_up c d (omega arith))
    ∙ sym (take-suc c d (pos 0) h)

cells_are : (c : List ℤ) (d : ℕ) → Lies c d → c ≡ cells_of (length c) (stack_of c d)
cells_are c d l = rw (stack_of_length c d) (whole (pos 0) c d (reverse (stack_of c d)) (bottom_up c d l.room) l.clean)

-- one field of the outputs, in order
module _ {B : Type 0} (z : B) (f : Emit → B) (kinds : List ℕ) (values : List ℤ) (c : List B)
    (at : (k : ℕ) → f (record { kind = get_or kinds k 0; value = get_or values k (pos 0) }) ≡ get_or c k z) where
  in_order : (n : ℕ) → n ≤ length c → map f (outs_of kinds values n) ≡ take n c
  unfolding outs_of
  in_order zero h = refl
  in_order (suc n) h =
      map-append f (outs_of kinds values n) (record { kind = get_or kinds n 0; value = get_or values n (pos 0) } ∷ [])
      ∙ ap₂ (λ (l : List B) (x : B). l ++ (x ∷ [])) (in_order n (omega arith)) (at n)
      ∙ sym (take-suc c n z h)

kinds_are : (kinds : List ℕ) (values : List ℤ) (n : ℕ) → Holds kinds values n
    → kinds ≡ kinds_of (length kinds) (outs_of kinds values n)
kinds_are kinds values n h =
    rw (outs_length kinds values n)
    (whole 0 kinds n (map (λ e. e.kind) (outs_of kinds values n))
    (in_order 0 (λ e. e.kind) kinds values kinds (λ k. refl) n h.kinds_room) h.kinds_clean)

values_are : (kinds : List ℕ) (values : List ℤ) (n : ℕ) → Holds kinds values n
    → values ≡ values_of (length values) (outs_of kinds values n)
values_are kinds values n h =
    rw (outs_length kinds values n)
    (whole (pos 0) values n (map (λ e. e.value) (outs_of kinds values n))
    (in_order (pos 0) (λ e. e.value) kinds values values (λ k. refl) n h.values_room) h.values_clean)

slices_are : (l l₀ : Slices) (at : Core) → AsLong l l₀ → Stands l at → l ≡ slices_of l₀ (store_of l at)
slices_are l l₀ at n s =
    rw (← n.stack, ← n.kinds, ← n.values)
    (λ i. slices (cells_are l.stack at.depth s.lies i) (kinds_are l.kinds l.values at.outputs s.holds i)
    (values_are l.kinds l.values at.outputs s.holds i))

state_is : (l : Slices) (at : State) → at ≡ place_of (machine_of l at)
state_is l at =
    λ i. record {
      region = at.region;
      steps = at.steps;
      core = record {
        pointers = at.core.pointers;
        depth = sym (stack_of_length l.stack at.core.depth) i;
        outputs = sym (outs_length l.kinds l.values at.core.outputs) i;
        reading = at.core.reading;
      };
    }

-- the numbers and the cells of a run that reached e
pub settled : (n : ℕ) (e : End) (l l₀ : Slices) (r : Ended) → AsLong l l₀ → Reaches n e l r
    → (r ≡ ended_of e) × (l ≡ slices_of l₀ e.at.store)
settled n e l l₀ r h q = (
  ap₂ ended q.stop (state_is l r.at ∙ ap place_of q.at),
  slices_are l l₀ r.at.core h q.placed.stands ∙ ap (λ (m : Machine). slices_of l₀ m.store) q.at,
)
  where
    ended : Stop → State → Ended
    ended s at = record { stop = s; at = at }

-- where a run ended, reading stands where it may: it may be taken up again (rule 16.4)
pub reached_judged : (n : ℕ) (rows exits : List ℕ) (g : Given) (l l' : Slices) (k : ℕ) (m : Machine) (r : Ended)
    → Reaches n (run_of (job_of rows exits g l) k m) l' r → JudgedIn g m.store.reading → JudgedIn g r.at.core.reading
reached_judged n rows exits g l l' k m r q h = subst (λ (x : Machine). JudgedIn g x.store.reading) (sym q.at) (run_judged (job_of rows exits g l) k m h)

-- ---- the start

module _ {l l' : Slices} {from : State} (b : Begun l l' from) where
  -- it is a place of every table
  pub begun_placed : (n : ℕ) → 0 < n → Placed n l' from
  begun_placed n h =
      subst (λ (x : Slices). Placed n x from) (sym b.leaves) (subst (λ (x : State). Placed n (slices_of l start.store) x) (sym b.at) (record {
        stands = record {
          lies = record { room = omega arith; clean = λ i _. replicated (pos 0) (length l.stack - 0) i };
          holds = record {
            kinds_room = omega arith;
            values_room = omega arith;
            kinds_clean = λ i _. replicated 0 (length l.kinds - 0) i;
            values_clean = λ i _. replicated (pos 0) (length l.values - 0) i;
          };
          valid = record { dp = omega arith; cc = omega arith };
        };
        inside = h;
        few = omega arith;
      }))

  pub begun_judged : (g : Given) → JudgedIn g from.core.reading
  begun_judged g = rw b.at (judged_start g.terms.edition g.input)

  pub begun_machine : machine_of l' from ≡ start
  unfolding stack_of outs_of
  begun_machine = rw b.at refl

  -- what is left to run from there is the run from the start
  pub begun_run : (rows exits : List ℕ) (g : Given) → AsLong l' l
      → run_of (job_of rows exits g l') (g.terms.limit - from.steps) (machine_of l' from) ≡ end_of rows exits g l
  unfolding stack_of outs_of
  begun_run rows exits g h =
      let e : (limit : ℕ) → limit - 0 ≡ limit = λ limit. omega arith in
      rw b.at (ap₂ (λ j k. run_of j k start) (same_job rows exits g {l = l'} {l₀ = l} h) (e g.terms.limit))
