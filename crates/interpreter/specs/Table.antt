-- The lent table as a run reads it: refusal 10 (rule 12.2), and the exit that it comes to (rule 8.3). Where rows and exits stand, and what
-- an exit number says, is the crate table's. Assumes nothing.
use Rattle.std.specs.Prelude.{Bool, true, false, cond, not, ◌&&◌, ◌||◌, List, ℕ, zero, suc, ◌<◌, ◌≤◌, eqb, leb, ltb, length}
use Rattle.base.specs.declared.edition.Edition.{Edition}
use Rattle.flow.specs.declared.PointerState.{PointerState}
use Rattle.flow.specs.Pointer.{state_number, of_number, attempt_of}
use Rattle.machine.specs.declared.Op.{Op}
use Rattle.machine.specs.Machine.{op_numbered}
use Rattle.table.specs.Layout.{exit_at, mark_of, rows_room, exits_room}
use Rattle.table.specs.ExitNumber.{target_of, state_of, instruction_of, lost_slide, largest_in}

-- the pointers and the instruction of an exit
abbrev pub pointers_of : ℕ → PointerState
pointers_of w = of_number (state_of w)

abbrev pub op_of : ℕ → Op
op_of w = op_numbered (instruction_of w)

-- the exit of a region in the state tried k-th
abbrev pub tried : List ℕ → ℕ → PointerState → ℕ → ℕ
tried exits region p k = exit_at exits region (state_number (attempt_of p k))

-- the first one of j attempts from the k-th on that is not 0, or 0
unfoldable pub open_from : List ℕ → ℕ → PointerState → ℕ → ℕ → ℕ
open_from exits region p zero k = 0
open_from exits region p (suc j) k = cond (eqb (tried exits region p k) 0) (open_from exits region p j (suc k)) (tried exits region p k)

-- the exit that a run comes to, of the eight attempts in their order; 0 where all eight are 0 (rule 8.3)
abbrev pub exit_of : List ℕ → ℕ → PointerState → ℕ
exit_of exits region p = open_from exits region p 8 0

-- an exit by which no step is made: there is none (rule 11.1), or it is a lost slide (rule 16.6)
abbrev pub ends : ℕ → Bool
ends w = eqb w 0 || eqb w lost_slide

-- some number below n passes; every one does
unfoldable pub any : (ℕ → Bool) → ℕ → Bool
any f zero = false
any f (suc n) = f n || any f n

unfoldable pub every : (ℕ → Bool) → ℕ → Bool
every f zero = true
every f (suc n) = f n && every f n

-- refusal 10, clause by clause (rule 12.2): no regions, or too many
abbrev pub wrong_count : ℕ → Bool
wrong_count n = eqb n 0 || ltb 65536 n

-- too few cells of rows or exits for n regions
abbrev pub too_short : ℕ → List ℕ → List ℕ → Bool
too_short n rows exits = ltb (length rows) (rows_room n) || ltb (length exits) (exits_room n)

-- a node mark that is neither 0 nor 1
abbrev pub wrong_mark : List ℕ → ℕ → Bool
wrong_mark rows region = ltb 1 (mark_of rows region)

-- an exit above the largest, or whose target is no region; 0, which is no exit, and a lost slide read as target 0
abbrev pub wrong_exit : ℕ → ℕ → ℕ → Bool
wrong_exit largest n w = ltb largest w || leb n (target_of w)

abbrev pub wrong_exits : ℕ → ℕ → List ℕ → ℕ → Bool
wrong_exits largest n exits region = any (λ s. wrong_exit largest n (exit_at exits region s)) 8

abbrev pub wrong_table : Edition → ℕ → List ℕ → List ℕ → Bool
wrong_table e n rows exits =
    wrong_count n
    || (too_short n rows exits || (any (wrong_mark rows) n || any (wrong_exits (largest_in e) n exits) n))

abbrev pub valid_of : Edition → ℕ → List ℕ → List ℕ → Bool
valid_of e n rows exits = not (wrong_table e n rows exits)

-- what a run may rely on in a table that is not refused
pub record Good (n : ℕ) (rows exits : List ℕ) : Type 0 where
  pub some : 0 < n
  pub few : n ≤ 65536
  pub rows_fit : rows_room n ≤ length rows
  pub exits_fit : exits_room n ≤ length exits
  pub leads : (r s : ℕ) → r < n → s < 8 → target_of (exit_at exits r s) < n
