-- The machine's numbers: integers from -2^63 to 2^63 - 1 (rule 9.10). Assumes nothing.
use Rattle.std.specs.Prelude.{ℕ, suc, ◌-◌, ◌/◌, ◌%◌, ◌^◌, Option, Some, None, Bool, false, cond, ◌||◌, List, [], ◌∷◌, ℤ, pos, negsuc, ◌-ℤ◌, ◌*ℤ◌, neg_ℤ, ◌==◌, int_div, nat_lt, unsigned_abs}
use Rattle.base.specs.Edition.{by_edition}
use Rattle.base.specs.declared.edition.Edition.{Edition}

-- z modulo m, never negative: -1 modulo m is m - 1
unfoldable pub residue : ℤ → ℕ → ℕ
residue (pos n) m = n % m
residue (negsuc n) m = m - suc (n % m)

-- 64 bits read as a two's complement number
unfoldable pub signed64 : ℕ → ℤ
signed64 u = cond (nat_lt u (2 ^ 63)) (pos u) (negsuc (2 ^ 64 - suc u))

-- the one number of -2^63 .. 2^63 - 1 that differs from z by a multiple of 2^64 (rule 9.3)
unfoldable pub wrap : ℤ → ℤ
wrap z = signed64 (residue z (2 ^ 64))

unfoldable pub is_zero : ℤ → Bool
is_zero (pos n) = n == 0
is_zero (negsuc n) = false

-- b over a, rounded toward zero; by 0 nothing comes; -2^63 Div -1 wraps to -2^63 (rule 9.4)
unfoldable pub quotient : ℤ → ℤ → List ℤ
quotient b a = cond (is_zero a) [] (wrap (int_div b a) ∷ [])

-- b modulo |a|, never negative; by 0 and by -2^63 nothing comes (rule 9.5)
unfoldable pub rust_remainder : ℤ → ℤ → List ℤ
rust_remainder b a = cond (unsigned_abs a == 0 || unsigned_abs a == 2 ^ 63) [] (pos (residue b (unsigned_abs a)) ∷ [])

-- b over m, rounded down: -1 over m is -1
unfoldable pub floor_by : ℤ → ℕ → ℤ
floor_by (pos n) m = pos (n / m)
floor_by (negsuc n) m = negsuc (n / m)

-- b over a, rounded down; b over -m is -b over m
unfoldable pub floor_quotient : ℤ → ℤ → ℤ
floor_quotient b (pos m) = floor_by b m
floor_quotient b (negsuc k) = floor_by (neg_ℤ b) (suc k)

-- what that quotient leaves of b: 0, or of a's sign and nearer to 0 than a; by 0 nothing comes (rule 16.3)
unfoldable pub page_remainder : ℤ → ℤ → List ℤ
page_remainder b a = cond (is_zero a) [] ((b -ℤ a *ℤ floor_quotient b a) ∷ [])

-- the remainder of each edition (rules 9.5, 16.3)
unfoldable pub remainder : Edition → ℤ → ℤ → List ℤ
remainder e b a = by_edition e (rust_remainder b a) (page_remainder b a)

-- what a division gives, in a list
abbrev pub values : Option ℤ → List ℤ
values (Some v) = v ∷ []
values None = []
