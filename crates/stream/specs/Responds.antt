-- What a program prints of the bytes that it read (rule 13.7): `Outcome input before r after` is what it makes of an input. Assumes
-- nothing.
use Rattle.std.specs.Prelude.{◌≡◌, true, false, List, ℕ, length, take}
use Rattle.stream.specs.declared.Stop.{Stop}
use Rattle.stream.specs.Stream.{whole_input}

-- an input of which the buffer holds what was read: all of it, or as many of its first bytes as the buffer has
abbrev pub Holds : List ℕ → ℕ → List ℕ → Type 0
Holds buffer done input = take done buffer ≡ take (length buffer) input

-- Where the input was read whole: what is made of it, whatever it has beyond the buffer. Else nothing, and no byte changes.
pub data Responds (Outcome : List ℕ → List ℕ → ℕ → List ℕ → Type 0) (s : Stop) (buffer before : List ℕ) (r : ℕ) (after : List ℕ) : Type 0 where
  answered : whole_input s (length buffer) ≡ true → ((input : List ℕ) → Holds buffer s.done input → Outcome input before r after)
      → Responds Outcome s buffer before r after
  unread : whole_input s (length buffer) ≡ false → r ≡ 0 → after ≡ before → Responds Outcome s buffer before r after
