-- UTF-8 over the code point (rule 10.6): which numbers are characters, the bytes of one, and when bytes read as characters.
-- Assumes nothing.
use Rattle.std.specs.Prelude.{ℕ, ◌+◌, ◌/◌, ◌%◌, ◌<◌, ◌≤◌, ◌≡◌, Bool, true, ◌&&◌, not, cond, List, [], ◌∷◌, ◌++◌, ltb, length, drop}
use Rattle.text.specs.Range.{within}
use Rattle.text.specs.declared.utf8.Decoded.{Decoded}
use Rattle.text.specs.declared.utf8.Decoded.TheVariants.{Char, Bad, End}

-- a Unicode scalar: below 0x110000, and no surrogate, U+D800 to U+DFFF (rule 10.6)
unfoldable pub scalar : ℕ → Bool
scalar c = ltb c 0x110000 && not (within 0xD800 0xDFFF c)

unfoldable pub scalars : List ℕ → Bool
scalars [] = true
scalars (c ∷ cs) = scalar c && scalars cs

abbrev pub Scalar : ℕ → Type 0
Scalar c = scalar c ≡ true

abbrev pub Scalars : List ℕ → Type 0
Scalars cs = scalars cs ≡ true

-- a continuation byte carries six bits of a code point
abbrev pub tail_byte : ℕ → ℕ
tail_byte n = 0x80 + n % 64

abbrev pub IsTail : ℕ → Type 0
IsTail b = (0x80 ≤ b) × (b < 0xC0)

-- a code point in one, two, three and four bytes
abbrev pub bytes1 : ℕ → List ℕ
bytes1 c = c ∷ []

abbrev pub bytes2 : ℕ → List ℕ
bytes2 c = (0xC0 + c / 64) ∷ tail_byte c ∷ []

abbrev pub bytes3 : ℕ → List ℕ
bytes3 c = (0xE0 + c / 4096) ∷ tail_byte (c / 64) ∷ tail_byte c ∷ []

abbrev pub bytes4 : ℕ → List ℕ
bytes4 c = (0xF0 + c / 262144) ∷ tail_byte (c / 4096) ∷ tail_byte (c / 64) ∷ tail_byte c ∷ []

-- the bytes of a code point: the fewest that hold it
unfoldable pub encode : ℕ → List ℕ
encode c =
    cond (ltb c 0x80) (bytes1 c)
    (cond (ltb c 0x800) (bytes2 c)
    (cond (ltb c 0x10000) (bytes3 c) (bytes4 c)))

-- the bytes of a text
unfoldable pub encodes : List ℕ → List ℕ
encodes [] = []
encodes (c ∷ cs) = encode c ++ encodes cs

-- the bytes read as the characters cs
pub record Utf8 (bytes cs : List ℕ) : Type 0 where
  pub scalars : Scalars cs
  pub same : bytes ≡ encodes cs

-- the bytes are UTF-8
abbrev pub Valid : List ℕ → Type 0
Valid bytes = (cs : List ℕ) × Utf8 bytes cs

-- the bytes of the character c stand from `at` up to n
pub record IsChar (s : List ℕ) (at c n : ℕ) : Type 0 where
  pub scalar : Scalar c
  pub next : n ≡ at + length (encode c)
  pub bytes : drop at s ≡ encode c ++ drop n s

-- what stands at a place: a character and the place after it; bytes that begin no character; nothing
pub data Reads (s : List ℕ) (at : ℕ) (r : Decoded) : Type 0 where
  char : (c n : ℕ) → IsChar s at c n → r ≡ Char c n → Reads s at r
  bad : at < length s → ((c n : ℕ) → IsChar s at c n → ⊥) → r ≡ Bad → Reads s at r
  past : length s ≤ at → r ≡ End → Reads s at r
