-- What a call of read or write comes to, and when an input was read whole (rule 13.7). Assumes nothing.
use Rattle.std.specs.Prelude.{◌≡◌, Bool, true, false, ◌||◌, List, ℕ, zero, suc, ◌≤◌, eqb, ℤ, pos, negsuc, length}
use Rattle.stream.specs.declared.Step.{Step}
use Rattle.stream.specs.declared.Step.TheVariants.{Moved, End, Again, Failed}
use Rattle.stream.specs.declared.Stop.{Stop}

abbrev pub or_failed : Bool → Step
or_failed true = Again
or_failed false = Failed

-- a call that failed, by its error: one that a signal interrupted (4, EINTR) or that could do nothing yet (11, EAGAIN) is
-- made again; any other has failed
abbrev pub failed_by : ℤ → Step
failed_by (pos error) = or_failed (eqb error 4 || eqb error 11)
failed_by (negsuc n) = Failed

-- a call that answers so many bytes, and the error that it leaves: bytes were moved, 0 is the end, below 0 it failed
abbrev pub step_of : ℤ → ℤ → Step
step_of (pos zero) error = End
step_of (pos (suc n)) error = Moved (suc n)
step_of (negsuc n) error = failed_by error

-- a read that found the end of the input
abbrev pub is_end : Step → Bool
is_end (Moved n) = false
is_end End = true
is_end Again = false
is_end Failed = false

-- all of the input was read that there is room for: the room is full, or the last read found the end
abbrev pub whole_input : Stop → ℕ → Bool
whole_input s room = eqb s.done room || is_end s.last

-- where reading stopped lies in what is lent
pub record Stops (s : Stop) (before after : List ℕ) : Type 0 where
  pub long : length after ≡ length before
  pub within : s.done ≤ length after
