-- From what the parts of an instruction did to the slices to what `exec` promises. Assumes nothing.
use mathlib.Core.Path.{◌≡◌, refl, sym, ap, ap₂, ◌∙◌}
use mathlib.Core.Bool.{true, false}
use mathlib.Core.List.{List, [], ◌++◌}
use Prim.Native.Nat.{ℕ, min, ◌-◌, ◌<◌, ◌≤◌}
use native.Mathlib.Omega.{arith}
use borrow.Author.Tests.{lt-ltb, le-ltb}
use lib.ListN.{length, get_or}
use lib.IntN.{ℤ, pos}
use Rattle.flow.specs.declared.PointerState.{PointerState}
use Rattle.flow.specs.Pointer.{Valid}
use Rattle.text.specs.Number.{Number}
use Rattle.text.specs.declared.number.Reason.{Reason}
use Rattle.text.specs.declared.input.Taken.{Taken}
use Rattle.text.specs.declared.input.Taken.TheVariants as Line
use Rattle.text.specs.Input.{Next}
use Rattle.text.specs.Reading.{take_of}
use Rattle.stack.specs.Stack.{stack_of, Does, Grows}
use Rattle.stack.specs.Instr as Instr
use Rattle.stack.proofs.Cells.{stack_of_length, one, pop_le}
use Rattle.machine.specs.declared.Core.{Core}
use Rattle.std.specs.Prelude.{Result, Ok, Err}
use Rattle.machine.specs.declared.Stop.{Stop}
use Rattle.machine.specs.declared.Stop.TheVariants.{BadInput}
use Rattle.std.specs.Prelude.{Option, Some, None}
use Rattle.machine.specs.Output.{Emit, outs_of, of_top, Puts}
use Rattle.machine.specs.Counts.{counted}
use Rattle.machine.specs.Machine.{Given, RunRoom, Store, Effect, does, keeps, with_stack, with_pointers, with_outs, with_used, on_stack, by_top, turn, write, take, take_number, read, fitting}
use Rattle.machine.specs.Held.{slices, room_of, store_of, Stands, out_of, After, Execs, StackExecs, at_depth, at_outputs, at_used, at_pointers, at_wait, at_skips, grown_of, wrote_of}
use Rattle.machine.proofs.Emitting.{outs_length}

-- a store that fits is kept
pub fits : (room : RunRoom) (m : Store) → length m.stack ≤ room.stack → length m.outs ≤ room.outs → fitting room (does m) ≡ keeps m
unfolding fitting
fits room m p q = rw (le-ltb room.stack (length m.stack) p, le-ltb room.outs (length m.outs) q) refl

-- the top, where there is one
by-top : (f : PointerState → ℤ → PointerState) (p : PointerState) (c : List ℤ) (d : ℕ) → 0 < d
    → f p (get_or c (d - 1) (pos 0)) ≡ by_top f (stack_of c d) p
unfolding by_top
by-top f p c d h = rw (one c d h) refl

module _ (stack : List ℤ) (kinds : List ℕ) (values : List ℤ) (at : Core) where
  -- a step that is kept
  pub kept : (e : Store → Effect) (stack' : List ℤ) (kinds' : List ℕ) (values' : List ℤ) (at' : Core)
      → Stands (slices stack' kinds' values') at' → length stack' ≡ length stack → length kinds' ≡ length kinds
      → length values' ≡ length values
      → e (store_of (slices stack kinds values) at) ≡ does (store_of (slices stack' kinds' values') at')
      → Execs e (slices stack kinds values) at (slices stack' kinds' values') (Ok at')
  unfolding out_of After
  kept e stack' kinds' values' at' s p q r h = record {
    is =
        sym
        (ap (fitting (room_of (slices stack kinds values))) h
        ∙ fits (room_of (slices stack kinds values)) (store_of (slices stack' kinds' values') at')
        (omega (arith, stack_of_length stack' at'.depth, s.lies.room))
        (omega (arith, outs_length kinds' values' at'.outputs, s.holds.kinds_room, s.holds.values_room)));
    leaves = s;
  }

  module _ (s : Stands (slices stack kinds values) at) where
    pub unmoved : (e : Store → Effect)
        → e (store_of (slices stack kinds values) at) ≡ does (store_of (slices stack kinds values) at)
        → Execs e (slices stack kinds values) at (slices stack kinds values) (Ok at)
    unmoved e h = kept e stack kinds values at s refl refl refl h

    pub stack_kept : (f : List ℤ → List ℤ) (stack' : List ℤ) (d' : ℕ) → Does f stack at.depth stack' d'
        → length stack' ≡ length stack
        → Execs (on_stack f) (slices stack kinds values) at (slices stack' kinds values) (Ok (at_depth d' at))
    stack_kept f stack' d' q n =
        kept (on_stack f) stack' kinds values (at_depth d' at)
        (record { lies = q.lies; holds = s.holds; valid = s.valid }) n refl refl
        (ap (λ (t : List ℤ). does (with_stack t (store_of (slices stack kinds values) at))) (sym q.is))

    pub grown : (f : List ℤ → List ℤ) (stack' : List ℤ) (g : Option ℕ) → Grows f stack at.depth stack' g
        → length stack' ≡ length stack
        → Execs (on_stack f) (slices stack kinds values) at (slices stack' kinds values) (grown_of at g)
    unfolding Grows grown_of out_of fitting After
    grown f stack' (Some d') q n = stack_kept f stack' d' q n
    grown f stack' None q n = record {
      is = rw (lt-ltb (length stack) (length (f (stack_of stack at.depth))) q.full) refl;
      leaves = ap (λ (t : List ℤ). slices t kinds values) q.same;
    }

    -- Ptr and Swi: the pointers turn by the top, which goes
    pub turned : (f : PointerState → ℤ → PointerState) → ((p : PointerState) (z : ℤ) → Valid p → Valid (f p z))
        → (stack' : List ℤ) (d' : ℕ) (p' : PointerState) → Does Instr.pop stack at.depth stack' d'
        → length stack' ≡ length stack → 0 < at.depth → p' ≡ f at.pointers (get_or stack (at.depth - 1) (pos 0))
        → Execs (turn f) (slices stack kinds values) at (slices stack' kinds values) (Ok (at_pointers p' (at_depth d' at)))
    unfolding turn
    turned f stays stack' d' p' q n some e =
        kept (turn f) stack' kinds values (at_pointers p' (at_depth d' at))
        (record { lies = q.lies; holds = s.holds; valid = rw e (stays at.pointers _ s.valid) }) n refl refl
        (ap₂ (λ (t : List ℤ) (p : PointerState). does (with_stack t (with_pointers p (store_of (slices stack kinds values) at))))
        (sym q.is) (sym (e ∙ by-top f at.pointers stack at.depth some)))

    pub unturned : (f : PointerState → ℤ → PointerState) → at.depth ≡ 0
        → Execs (turn f) (slices stack kinds values) at (slices stack kinds values) (Ok at)
    unfolding by_top Instr.pop stack_of turn
    unturned f h = unmoved (turn f) (go (stack_of stack at.depth) (ap (stack_of stack) h))
      where
        go : (t : List ℤ) → t ≡ []
            → does (with_stack (Instr.pop t) (with_pointers (by_top f t at.pointers) (store_of (slices stack kinds values) at)))
            ≡ does (with_stack t (store_of (slices stack kinds values) at))
        go t e = rw e refl

    -- what the top gives is emitted
    pub wrote : (f : ℤ → List Emit) (stack' : List ℤ) (kinds' : List ℕ) (values' : List ℤ) (w : Option (ℕ × ℕ))
        → Puts f stack at.depth kinds values at.outputs stack' kinds' values' w → length stack' ≡ length stack
        → length kinds' ≡ length kinds → length values' ≡ length values
        → Execs (write f) (slices stack kinds values) at (slices stack' kinds' values') (wrote_of at w)
    unfolding Puts write wrote_of fitting out_of After
    wrote f stack' kinds' values' (Some (d', n')) q i j k =
        kept (write f) stack' kinds' values' (at_outputs n' (at_depth d' at))
        (record { lies = q.lies; holds = q.writes.holds; valid = s.valid }) i j k
        (ap₂ (λ (t : List ℤ) (o : List Emit). does (with_stack t (with_outs o (store_of (slices stack kinds values) at))))
        (sym q.pops) (sym q.writes.is))
    wrote f stack' kinds' values' None q i j k = record {
      is =
          rw (
            le-ltb (length stack) (length (Instr.pop (stack_of stack at.depth)))
                (omega (arith, pop_le (stack_of stack at.depth), stack_of_length stack at.depth, s.lies.room)),
            lt-ltb (min (length kinds) (length values)) (length (outs_of kinds values at.outputs ++ of_top f (stack_of stack at.depth)))
                q.full,
          )
          refl;
      leaves = rw (q.same_stack, q.same_kinds, q.same_values) refl;
    }

    -- what is taken of a line is gone
    pub pushed : (v : ℤ) (n : ℕ) (stack' : List ℤ) (g : Option ℕ) → Grows (Instr.push v) stack at.depth stack' g
        → length stack' ≡ length stack
        → Execs (take (Line.Push v n)) (slices stack kinds values) at (slices stack' kinds values) (grown_of (at_used n at) g)
    unfolding Grows take grown_of out_of fitting After
    pushed v n stack' (Some d') q l =
        kept (take (Line.Push v n)) stack' kinds values (at_depth d' (at_used n at))
        (record { lies = q.lies; holds = s.holds; valid = s.valid }) l refl refl
        (ap (λ (t : List ℤ). does (with_used n (with_stack t (store_of (slices stack kinds values) at)))) (sym q.is))
    pushed v n stack' None q l = record {
      is = rw (lt-ltb (length stack) (length (Instr.push v (stack_of stack at.depth))) q.full) refl;
      leaves = ap (λ (t : List ℤ). slices t kinds values) q.same;
    }

    pub skipped : (n : ℕ) (why : Reason) → Execs (take (Line.Skip n why)) (slices stack kinds values) at (slices stack kinds values) (Ok (at_used n at))
    unfolding take
    skipped n why =
        kept (take (Line.Skip n why)) stack kinds values (at_used n at) (record { lies = s.lies; holds = s.holds; valid = s.valid })
        refl refl refl refl

    pub bad : Execs (take Line.BadInput) (slices stack kinds values) at (slices stack kinds values) (Err BadInput)
    unfolding fitting out_of take After
    bad = record { is = refl; leaves = refl }

    pub waits : (f : List ℕ → Number) (next : Next) (takes : Taken → Store → Effect) (g : Given) → g.terms.abstract_mode ≡ true
        → Execs (read g f next takes) (slices stack kinds values) at (slices stack kinds values) (Ok (at_wait at))
    unfolding read
    waits f next takes g e =
        kept (read g f next takes) stack kinds values (at_wait at) (record { lies = s.lies; holds = s.holds; valid = s.valid })
        refl refl refl (rw e refl)

-- what the text gives is what is taken
pub reads : (f : List ℕ → Number) (next : Next) (takes : Taken → Store → Effect) (g : Given) (t : Taken) (stack stack' : List ℤ) (at : Core) (r : Result Core Stop)
    → g.terms.abstract_mode ≡ false → t ≡ take_of f next g.input at.reading.used → StackExecs (takes t) stack at stack' r
    → StackExecs (read g f next takes) stack at stack' r
unfolding read
reads f next takes g t stack stack' at r unmet e x kinds values h =
    let y = x kinds values h in
    record {
      is =
          y.is
          ∙ ap (λ (u : Taken). fitting (room_of (slices stack kinds values)) (takes u (store_of (slices stack kinds values) at))) e
          ∙ rw unmet refl;
      leaves = y.leaves;
    }

-- a number line is taken from where its reason is counted already
pub takes_number : (t : Taken) (stack stack' : List ℤ) (at : Core) (r : Result Core Stop)
    → StackExecs (take t) stack (at_skips (counted t at.reading.skips) at) stack' r → StackExecs (take_number t) stack at stack' r
takes_number t stack stack' at r x kinds values h =
    let y = x kinds values h in
    record { is = y.is; leaves = y.leaves }
