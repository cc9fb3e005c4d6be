-- The bytes of a line without the white space at its ends (rule 10.3). Assumes nothing.
use Rattle.std.specs.Prelude.{ℕ, ◌≡◌, List}
use Rattle.text.specs.Utf8.{Utf8, Valid}
use Rattle.text.specs.White.{trimmed}

-- UTF-8 is trimmed as its characters are; other bytes stay whole
pub record Trims (s t : List ℕ) : Type 0 where
  pub text : (cs : List ℕ) → Utf8 s cs → Utf8 t (trimmed cs)
  pub other : (Valid s → ⊥) → t ≡ s
