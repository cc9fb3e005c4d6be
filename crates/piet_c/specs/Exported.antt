-- What a call from C returns and leaves in its answer slice (rules 12.1, 12.8). Assumes nothing.
use Rattle.std.specs.Prelude.{◌≡◌, List, ℕ, ◌<◌, ◌≤◌, length}
use Rattle.base.specs.Lent.{lent}
use Rattle.base.specs.Numbers.{Numbers, number_of, values_of}

-- A call that names `need` cells of the answer, over what is lent besides. Too short an answer: 4 before all else, and
-- nothing changes. Else the call is made: its number is returned, its values stand in the first cells of the answer, and the
-- cells past them are as they were.
pub data Exported (need : ℕ) {S : Type 0} (Makes : Numbers → S → Type 0) (before : S) (answer : List ℕ) (r : ℕ) (after : S) (answer' : List ℕ) : Type 0 where
  short : length answer < need → r ≡ 4 → after ≡ before → answer' ≡ answer → Exported need Makes before answer r after answer'
  made : (n : Numbers) → need ≤ length answer → Makes n after → r ≡ number_of n → answer' ≡ lent (values_of n) answer
      → Exported need Makes before answer r after answer'
