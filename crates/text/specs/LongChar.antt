-- Inner: the bytes of a character of more than one, as the helpers of `decode` find them. No public contract cites it.
-- Assumes nothing.
use Rattle.std.specs.Prelude.{Option, Some, None, ℕ, ◌+◌, ◌<◌, ◌≡◌, List, length, get_or}
use Rattle.text.specs.Utf8.{IsTail}

-- a continuation byte stands at a place, and has the bits x
pub record Carries (s : List ℕ) (i x : ℕ) : Type 0 where
  pub inside : i < length s
  pub small : x < 64
  pub byte : get_or s i 0 ≡ 0x80 + x

pub data TailAt (s : List ℕ) (i : ℕ) (r : Option ℕ) : Type 0 where
  tail : (x : ℕ) → Carries s i x → r ≡ Some x → TailAt s i r
  other : (i < length s → IsTail (get_or s i 0) → ⊥) → r ≡ None → TailAt s i r

-- a first byte b with the bits `high`, after which so many continuation bytes follow; numbers below `least` need fewer
pub data FirstByte (b high more least : ℕ) : Type 0 where
  of_two : b ≡ 0xC0 + high → high < 32 → more ≡ 1 → least ≡ 0x80 → FirstByte b high more least
  of_three : b ≡ 0xE0 + high → high < 16 → more ≡ 2 → least ≡ 0x800 → FirstByte b high more least
  of_four : b ≡ 0xF0 + high → high < 16 → more ≡ 3 → least ≡ 0x10000 → FirstByte b high more least
