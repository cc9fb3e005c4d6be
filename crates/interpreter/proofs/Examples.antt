-- The worked job (rule 13.8) on its table, its exits, and the order of the stops (rule 8.2), by computation. Assumes nothing.
use mathlib.Core.Path.{◌≡◌, refl, ap, ◌∙◌}
use mathlib.Core.Bool.{Bool, true, false}
use mathlib.Core.List.{List, [], ◌∷◌, ◌++◌}
use Prim.Native.Nat.{ℕ}
use native.Mathlib.Omega.{arith}
use lib.IntN.{pos}
use Rattle.base.specs.Lent.{lent}
use Rattle.base.specs.Numbers.{Numbers, numbers, first}
use Rattle.flow.specs.Pointer.{attempt_of}
use Rattle.text.specs.Utf8.{scalars, encodes}
use Rattle.text.specs.Line.{line_length}
use Rattle.text.specs.Input.{int_of, push_or_skip}
use Rattle.text.specs.Reading.{chars, same, valid, take_of}
use Rattle.stack.specs.Instr.{pop}
use Rattle.machine.specs.Counts.{index_of, one, one_more, counted}
use Rattle.machine.specs.Place.{start}
use Rattle.machine.specs.Machine.{Asks, asks, given_of, status_of, take, read, exec, fitting}
use Rattle.machine.specs.Held.{Slices, slices}
use Rattle.interpreter.specs.Table.{open_from, any, every}
use Rattle.interpreter.specs.Forever as Forever
use Rattle.interpreter.specs.Run.{arrive, after, run_of}
use Rattle.std.specs.Prelude.{Result}
use Rattle.base.specs.declared.refusal.Refusal.{Refusal}
use Rattle.interpreter.specs.declared.Ended.{Ended}
use Rattle.interpreter.specs.History.{History, stays, passes}
use Rattle.interpreter.specs.Outcome.{refused, job_of, end_of, answer, left_of}
use Rattle.interpreter.specs.Recorded.{taken_of, Recorded}
use Rattle.interpreter.proofs.Histories.{history_only}
use Rattle.interpreter.proofs.Answering.{recorded}

-- light red beside red, with the exits of rule 7.3's example
abbrev rows : List ℕ
rows = 12 ∷ 1 ∷ 0 ∷ 0 ∷ 1 ∷ 6 ∷ 1 ∷ 0 ∷ 1 ∷ 1 ∷ []

abbrev exits : List ℕ
exits = 524290 ∷ 589826 ∷ 0 ∷ 0 ∷ 0 ∷ 0 ∷ 0 ∷ 0 ∷ 0 ∷ 0 ∷ 0 ∷ 0 ∷ 1310721 ∷ 1376257 ∷ 0 ∷ 0 ∷ []

-- the numbers before the counts, and no line skipped
abbrev told : List ℕ → Numbers
told values = numbers 0 (values ++ (0 ∷ 0 ∷ 0 ∷ 0 ∷ []))

-- edition 1, a limit and a mode, and no input
abbrev with : ℕ → Bool → Asks
with limit mode = asks 1 limit mode []

-- slices that hold something before the call
abbrev used : Slices
used = slices (pos 7 ∷ pos 8 ∷ pos 9 ∷ []) (5 ∷ []) (pos 6 ∷ pos 6 ∷ [])

-- the worked job's result, in numbers; all other cells hold 0 (rule 8.6)
pub job : (answer 2 rows exits (with 3 false) used ≡ told (2 ∷ 3 ∷ 1 ∷ 0 ∷ 0 ∷ 1 ∷ 0 ∷ 0 ∷ []))
    × (left_of 2 rows exits (with 3 false) used ≡ slices (pos 1 ∷ pos 0 ∷ pos 0 ∷ []) (0 ∷ []) (pos 0 ∷ pos 0 ∷ []))
unfolding attempt_of pop status_of exec fitting open_from any arrive after run_of first
job = (refl, refl)

-- its exits, in more cells than it has steps, and in fewer (rule 18.1)
pub kept : {r : Result Ended Refusal} {l' : Slices} {t : List ℕ}
    → (Recorded 2 rows exits (with 3 false) used (7 ∷ 7 ∷ 7 ∷ 7 ∷ []) r l' t → t ≡ 524290 ∷ 1310721 ∷ 524290 ∷ 7 ∷ [])
    × (Recorded 2 rows exits (with 3 false) used (7 ∷ 7 ∷ []) r l' t → t ≡ 524290 ∷ 1310721 ∷ [])
unfolding attempt_of pop exec fitting open_from any arrive after run_of first lent
kept = (
  λ o. recorded 2 rows exits (with 3 false) used (7 ∷ 7 ∷ 7 ∷ 7 ∷ []) o refl ∙ ap (λ (ws : List ℕ). taken_of ws (7 ∷ 7 ∷ 7 ∷ 7 ∷ [])) (three_exits o.history),
  λ o. recorded 2 rows exits (with 3 false) used (7 ∷ 7 ∷ []) o refl ∙ ap (λ (ws : List ℕ). taken_of ws (7 ∷ 7 ∷ [])) (three_exits o.history),
)
  where
    three_exits : (h : History (job_of rows exits (given_of (with 3 false)) used) 3 start (end_of rows exits (given_of (with 3 false)) used))
        → h.exits ≡ 524290 ∷ 1310721 ∷ 524290 ∷ []
    three_exits h =
        (history_only (job_of rows exits (given_of (with 3 false)) used) h.passes (passes refl (passes refl (passes refl stays))) (omega (arith, h.counted))).0

-- the same table taken for one of 1 region: an exit leads to region 1, which is refused, and nothing changes
pub job_refused : (answer 1 rows exits (with 3 false) used ≡ refused 10)
    × (left_of 1 rows exits (with 3 false) used ≡ used)
    × (Forever.answer 1 rows exits ≡ numbers 10 (0 ∷ []))
unfolding any first
job_refused = (refl, refl, refl)

-- both nodes have an exit; a node with none; a row that is no node needs none
pub forever : (Forever.answer 2 rows exits ≡ numbers 0 (1 ∷ []))
    × (Forever.answer 1 rows (0 ∷ 0 ∷ 0 ∷ 0 ∷ 0 ∷ 0 ∷ 0 ∷ 0 ∷ []) ≡ numbers 0 (0 ∷ []))
    × (Forever.answer 1 (19 ∷ 1 ∷ 0 ∷ 0 ∷ 0 ∷ []) (0 ∷ 0 ∷ 0 ∷ 0 ∷ 0 ∷ 0 ∷ 0 ∷ 0 ∷ []) ≡ numbers 0 (1 ∷ []))
unfolding any every first
forever = (refl, refl, refl)

-- a run of one region with one exit, or none, and no room; in edition 1, and in that of a number
abbrev alone_in : ℕ → ℕ → ℕ → Bool → Numbers
alone_in edition exit limit mode =
    answer 1 (6 ∷ 3 ∷ 0 ∷ 0 ∷ 1 ∷ []) (exit ∷ 0 ∷ 0 ∷ 0 ∷ 0 ∷ 0 ∷ 0 ∷ 0 ∷ []) (asks edition limit mode []) (slices [] [] [])

abbrev alone : ℕ → ℕ → Bool → Numbers
alone = alone_in 1

-- no exit: Completed after 0 steps; with the limit 0, MaxSteps (rule 8.2)
pub stops_at_once : (alone 0 5 false ≡ told (1 ∷ 0 ∷ 0 ∷ 0 ∷ 0 ∷ 0 ∷ 0 ∷ 0 ∷ []))
    × (alone 0 0 false ≡ told (2 ∷ 0 ∷ 0 ∷ 0 ∷ 0 ∷ 0 ∷ 0 ∷ 0 ∷ []))
unfolding attempt_of status_of open_from any after run_of first
stops_at_once = (refl, refl)

-- a run of a region of size 3 with one exit, and one of size 5 with none: what is answered, and what the slices hold
abbrev two : ℕ → ℕ → Bool → Numbers × Slices
two exit limit mode = (answer 2 rows exits (with limit mode) cell, left_of 2 rows exits (with limit mode) cell)
  where
    rows : List ℕ
    rows = 6 ∷ 3 ∷ 0 ∷ 0 ∷ 1 ∷ 7 ∷ 5 ∷ 0 ∷ 1 ∷ 1 ∷ []

    exits : List ℕ
    exits = exit ∷ 0 ∷ 0 ∷ 0 ∷ 0 ∷ 0 ∷ 0 ∷ 0 ∷ 0 ∷ 0 ∷ 0 ∷ 0 ∷ 0 ∷ 0 ∷ 0 ∷ 0 ∷ []

    cell : Slices
    cell = slices (pos 9 ∷ []) [] []

-- the exit 8,388,610 to the second with IntIn, in abstract mode: MaxSteps before NeedsInput, NeedsInput before Completed
pub in_order : ((two 8388610 1 true).0 ≡ told (2 ∷ 1 ∷ 1 ∷ 0 ∷ 0 ∷ 0 ∷ 0 ∷ 0 ∷ []))
    × ((two 8388610 5 true).0 ≡ told (3 ∷ 1 ∷ 1 ∷ 0 ∷ 0 ∷ 0 ∷ 0 ∷ 0 ∷ []))
unfolding attempt_of status_of read exec fitting open_from any arrive after run_of first
in_order = (refl, refl)

-- the same exit not in abstract mode, at the end of the input: a skipped line, counted by its reason
pub at_end : (two 8388610 5 false).0 ≡ numbers 0 (1 ∷ 1 ∷ 1 ∷ 0 ∷ 0 ∷ 0 ∷ 0 ∷ 0 ∷ 1 ∷ 0 ∷ 0 ∷ 0 ∷ [])
unfolding attempt_of scalars encodes line_length int_of push_or_skip chars same valid take_of index_of one one_more counted status_of take read exec fitting open_from any arrive after run_of first
at_end = refl

-- the exit 524,290 to the second with Push: the size of the block just left
pub block_left : ((two 524290 5 false).0 ≡ told (1 ∷ 1 ∷ 1 ∷ 0 ∷ 0 ∷ 1 ∷ 0 ∷ 0 ∷ []))
    × ((two 524290 5 false).1 ≡ slices (pos 3 ∷ []) [] [])
unfolding attempt_of status_of exec fitting open_from any arrive after run_of first
block_left = (refl, refl)

-- the exit 524,289 with Push and no stack: the step isn't taken, StackFull after 0 steps
pub stack_full : alone 524289 5 false ≡ told (4 ∷ 0 ∷ 0 ∷ 0 ∷ 0 ∷ 0 ∷ 0 ∷ 0 ∷ [])
unfolding attempt_of status_of exec fitting open_from any arrive after run_of first
stack_full = refl

-- a lost slide: in edition 2 Completed after 0 steps, and with the limit 0 MaxSteps (rule 16.6); in edition 1 it is refused, as
-- is the number above it in both (rule 12.2)
pub lost-slide : (alone_in 2 9437185 5 false ≡ told (1 ∷ 0 ∷ 0 ∷ 0 ∷ 0 ∷ 0 ∷ 0 ∷ 0 ∷ []))
    × (alone_in 2 9437185 0 false ≡ told (2 ∷ 0 ∷ 0 ∷ 0 ∷ 0 ∷ 0 ∷ 0 ∷ 0 ∷ []))
    × (alone_in 1 9437185 5 false ≡ refused 10)
    × (alone_in 1 9437186 5 false ≡ refused 10)
    × (alone_in 2 9437186 5 false ≡ refused 10)
unfolding attempt_of status_of open_from any after run_of first
lost-slide = (refl, refl, refl, refl, refl)

-- a number that names no edition: 15, also where the table is wrong (rule 12.6)
pub no_edition : (alone_in 0 0 5 false ≡ refused 15) × (alone_in 3 9437186 5 false ≡ refused 15) × (alone_in 257 9437185 5 false ≡ refused 15)
unfolding first
no_edition = (refl, refl, refl)
