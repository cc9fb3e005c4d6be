-- Text as bytes. Assumes nothing.
use Rattle.std.specs.Prelude.{Bool, true, false, ◌&&◌, cond, List, [], ◌∷◌, ◌++◌, ℕ, zero, suc, ◌+◌, ◌*◌, ◌-◌, ◌/◌, ◌%◌, leb, ltb}
use Prim.Native.Char.{code}
use Prim.Native.String.{String, [] as empty, ◌∷◌ as ◌then◌}

-- the bytes of an ASCII text
abbrev pub ascii : String → List ℕ
ascii empty = []
ascii (c then s) = code c ∷ ascii s

-- a number's decimal digits, without leading zeros; n steps are enough for n
unfoldable pub digits : ℕ → ℕ → List ℕ
digits zero n = (48 + n) ∷ []
digits (suc steps) n = cond (ltb n 10) ((48 + n) ∷ []) (digits steps (n / 10) ++ ((48 + n % 10) ∷ []))

unfoldable pub decimal : ℕ → List ℕ
decimal n = digits n n

-- a byte is an ASCII digit, `0` to `9`
unfoldable pub digit : ℕ → Bool
digit b = leb 0x30 b && leb b 0x39

unfoldable pub all_digits : List ℕ → Bool
all_digits [] = true
all_digits (b ∷ bs) = digit b && all_digits bs

-- a numeral: digits, at least one
unfoldable pub numeral : List ℕ → Bool
numeral [] = false
numeral (b ∷ bs) = all_digits (b ∷ bs)

-- the value of ASCII digits that stand after a number n; `decimal n` has the value n (proofs/Decimal.antt)
unfoldable pub value_after : ℕ → List ℕ → ℕ
value_after n [] = n
value_after n (b ∷ bs) = value_after (n * 10 + (b - 0x30)) bs
