-- The examples of rule 17, by computation: what the runs enter, and what is answered and left. Assumes nothing.
use mathlib.Core.Path.{◌≡◌, refl, ap}
use mathlib.Core.Bool.{false}
use mathlib.Core.List.{List, [], ◌∷◌, ◌++◌}
use Prim.Native.Nat.{ℕ, ◌-◌}
use native.Mathlib.Omega.{arith}
use lib.IntN.{pos}
use Rattle.base.specs.Counting.{count, up_to, those}
use Rattle.base.specs.Lent.{lent}
use Rattle.base.specs.Numbers.{Numbers, numbers, first}
use Rattle.flow.specs.Pointer.{attempt_of}
use Rattle.stack.specs.Instr.{pop}
use Rattle.machine.specs.Machine.{Asks, asks, given_of, status_of, exec, fitting}
use Rattle.machine.specs.Place.{start}
use Rattle.interpreter.specs.Table.{open_from, any}
use Rattle.interpreter.specs.Run.{arrive, after, run_of}
use Rattle.interpreter.specs.History.{stays, passes, regions_of}
use Rattle.interpreter.specs.Outcome.{refused_in, job_of}
use Rattle.interpreter.proofs.Histories.{history_only}
use Rattle.visits.specs.Outcome.{Lends, lends, visit_cells, uncountable, Entering, answer, left_of}

-- light red beside red, with the exits of rule 7.3's example
abbrev rows : List ℕ
rows = 12 ∷ 1 ∷ 0 ∷ 0 ∷ 1 ∷ 6 ∷ 1 ∷ 0 ∷ 1 ∷ 1 ∷ []

abbrev exits : List ℕ
exits = 524290 ∷ 589826 ∷ 0 ∷ 0 ∷ 0 ∷ 0 ∷ 0 ∷ 0 ∷ 0 ∷ 0 ∷ 0 ∷ 0 ∷ 1310721 ∷ 1376257 ∷ 0 ∷ 0 ∷ []

-- the same with no mark for red
abbrev unmarked : List ℕ
unmarked = 12 ∷ 1 ∷ 0 ∷ 0 ∷ 1 ∷ 6 ∷ 1 ∷ 0 ∷ 1 ∷ 0 ∷ []

-- edition 1, a limit, no input, and slices that hold something before the call
abbrev under : ℕ → Asks
under limit = asks 1 limit false []

abbrev used : Lends
used = lends (pos 3 ∷ []) [] [] (7 ∷ 8 ∷ 9 ∷ []) (4 ∷ 5 ∷ 6 ∷ [])

-- a result with no output, nothing read and no line skipped
abbrev told : List ℕ → ℕ → Numbers
told values unvisited = numbers 0 (values ++ (0 ∷ 0 ∷ 0 ∷ 0 ∷ 0 ∷ 0 ∷ unvisited ∷ []))

-- three steps go to and fro: each region is entered twice
pub three : ((h : Entering 2 rows exits (under 3) used) → regions_of start h.exits ≡ 0 ∷ 1 ∷ 0 ∷ 1 ∷ [])
    × (answer 2 rows exits (under 3) used (0 ∷ 1 ∷ 0 ∷ 1 ∷ []) ≡ told (2 ∷ 3 ∷ 1 ∷ 0 ∷ 0 ∷ 1 ∷ []) 0)
    × (left_of 2 rows exits (under 3) used (0 ∷ 1 ∷ 0 ∷ 1 ∷ []) ≡ lends (pos 1 ∷ []) [] [] (2 ∷ 2 ∷ 9 ∷ []) (0 ∷ 0 ∷ 6 ∷ []))
unfolding attempt_of pop status_of exec fitting open_from any arrive after run_of first count up_to those lent
three = (
  λ h.
      ap (regions_of start)
      (history_only (job_of rows exits (given_of (under 3)) used.run) h.passes (passes refl (passes refl (passes refl stays))) (omega (arith, h.counted))).0,
  refl,
  refl,
)

-- no step: the start is entered, and red is not; a row without a mark is not listed
pub none : ((h : Entering 2 rows exits (under 0) used) → regions_of start h.exits ≡ 0 ∷ [])
    × (answer 2 rows exits (under 0) used (0 ∷ []) ≡ told (2 ∷ 0 ∷ 0 ∷ 0 ∷ 0 ∷ 0 ∷ []) 1)
    × (left_of 2 rows exits (under 0) used (0 ∷ []) ≡ lends (pos 0 ∷ []) [] [] (1 ∷ 0 ∷ 9 ∷ []) (1 ∷ 0 ∷ 6 ∷ []))
    × (left_of 2 unmarked exits (under 0) used (0 ∷ []) ≡ lends (pos 0 ∷ []) [] [] (1 ∷ 0 ∷ 9 ∷ []) (0 ∷ 0 ∷ 6 ∷ []))
unfolding attempt_of pop status_of exec fitting open_from any arrive after run_of first count up_to those lent
none = (
  λ h. ap (regions_of start) (history_only (job_of rows exits (given_of (under 0)) used.run) h.passes stays (omega (arith, h.counted))).0,
  refl,
  refl,
  refl,
)

-- the order of the refusals: with the largest limit a wrong table is 10, and a right one 16 though nothing is lent; with one step less
-- it is 4
pub order : (answer 1 rows exits (under uncountable) used [] ≡ refused_in visit_cells 10)
    × (answer 2 rows exits (under uncountable) (lends [] [] [] [] []) [] ≡ refused_in visit_cells 16)
    × (answer 2 rows exits (under (uncountable - 1)) (lends [] [] [] (7 ∷ 8 ∷ []) (4 ∷ [])) [] ≡ refused_in visit_cells 4)
unfolding any first
order = (refl, refl, refl)
