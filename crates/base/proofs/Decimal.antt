-- Laws of decimal digits.
--     decimal_small, decimal_more                   a number below ten; a larger one by its last digit
--     decimal_length                                how many there are at most
--     decimal_value, decimal_some, decimal_lead     they have the number as their value, there is one, and the first is
--                                                   not `0` but for the number 0
--     decimal_numeral                               and all of them are digits
-- Assumes nothing.
use mathlib.Core.Path.{◌≡◌, ◌∙◌, sym, refl}
use mathlib.Core.Bool.{true}
use mathlib.Core.List.{List, [], ◌∷◌, ◌++◌}
use Prim.Native.Nat.{ℕ, zero, suc, ◌+◌, ◌*◌, ◌-◌, ◌/◌, ◌%◌, ◌^◌, ◌<◌, ◌≤◌}
use native.Mathlib.Omega.{arith}
use native.Mathlib.Nat.{pow-suc, div-lt_iff_lt-mul}
use borrow.Author.Tests.{lt-ltb, le-ltb}
use lib.ListN.{length, get_or, length-append, get_or-append}
use Rattle.base.specs.Text.{digits, decimal, digit, all_digits, numeral, value_after}
use Rattle.base.proofs.Tests.{by_size, and_both}
use Rattle.base.proofs.Digits.{digit_in, is_numeral}

small : (f n : ℕ) → n < 10 → digits f n ≡ (48 + n) ∷ []
unfolding digits
small zero n h = refl
small (suc f) n h = rw (lt-ltb n 10 h)

-- n steps or more give the same digits
enough : (f g n : ℕ) → n ≤ f → n ≤ g → digits f n ≡ digits g n
unfolding digits
enough zero g n h k = sym (small g n (omega arith))
enough (suc f) zero n h k = small (suc f) n (omega arith)
enough (suc f) (suc g) n h k =
    by_size n 10 (λ l. small (suc f) n l ∙ sym (small (suc g) n l))
    (λ l. rw (le-ltb n 10 l, enough f g (n / 10) (omega arith) (omega arith)))

pub decimal_small : (n : ℕ) → n < 10 → decimal n ≡ (48 + n) ∷ []
unfolding decimal
decimal_small n h = small n n h

pub decimal_more : (n : ℕ) → 10 ≤ n → decimal n ≡ decimal (n / 10) ++ ((48 + n % 10) ∷ [])
unfolding decimal digits
decimal_more zero h = absurd (omega arith)
decimal_more (suc n) h =
    rw (le-ltb (suc n) 10 h, enough n (suc n / 10) (suc n / 10) (omega arith) (omega arith))

-- a number below 10 ^ suc k has at most suc k digits
pub decimal_length : (k n : ℕ) → n < 10 ^ suc k → length (decimal n) ≤ suc k
decimal_length zero n h = rw (decimal_small n h) (omega arith)
decimal_length (suc k) n h =
    by_size n 10 (λ l. rw (decimal_small n l) (omega arith))
    (λ l.
    let e : n < 10 ^ suc k * 10 = rw pow-suc at h in
    rw (decimal_more n l, length-append)
    (omega (arith, decimal_length k (n / 10) ((div-lt_iff_lt-mul {k = 10} (omega arith)).1 e))))

-- digits after digits
value_append : (n : ℕ) (a b : List ℕ) → value_after n (a ++ b) ≡ value_after (value_after n a) b
unfolding value_after
value_append n [] b = refl
value_append n (d ∷ a) b = value_append (n * 10 + (d - 0x30)) a b

one_value : (n : ℕ) → value_after 0 ((48 + n) ∷ []) ≡ n
unfolding value_after
one_value n = omega arith

digits_value : (f n : ℕ) → n ≤ f → value_after 0 (digits f n) ≡ n
unfolding digits value_after
digits_value zero n h = one_value n
digits_value (suc f) n h =
    by_size n 10 (λ l. rw (small (suc f) n l) (one_value n))
    (λ l. rw (le-ltb n 10 l, value_append, digits_value f (n / 10) (omega arith)) (omega arith))

digits_some : (f n : ℕ) → 0 < length (digits f n)
unfolding digits
digits_some zero n = omega arith
digits_some (suc f) n =
    by_size n 10 (λ l. rw (small (suc f) n l) (omega arith))
    (λ l. rw (le-ltb n 10 l, length-append) (omega arith))

digits_lead : (f n : ℕ) → n ≤ f → 0 < n → 48 < get_or (digits f n) 0 0
unfolding digits
digits_lead zero n h p = absurd (omega arith)
digits_lead (suc f) n h p =
    by_size n 10 (λ l. rw (small (suc f) n l) (omega arith))
    (λ l.
    let d = digits_some f (n / 10) in
    rw (le-ltb n 10 l, get_or-append) (digits_lead f (n / 10) (omega arith) (omega arith)))

pub decimal_value : (n : ℕ) → value_after 0 (decimal n) ≡ n
unfolding decimal
decimal_value n = digits_value n n (omega arith)

pub decimal_some : (n : ℕ) → 0 < length (decimal n)
unfolding decimal
decimal_some n = digits_some n n

pub decimal_lead : (n : ℕ) → 0 < n → 48 < get_or (decimal n) 0 0
unfolding decimal
decimal_lead n p = digits_lead n n (omega arith) p

all_append : (a b : List ℕ) → all_digits a ≡ true → all_digits b ≡ true → all_digits (a ++ b) ≡ true
unfolding all_digits
all_append [] b e f = f
all_append (d ∷ a) b e f =
    let p = and_both (digit d) (all_digits a) e in
    rw p.0 (all_append a b p.1 f)

one_digit : (n : ℕ) → n < 10 → all_digits ((48 + n) ∷ []) ≡ true
unfolding all_digits
one_digit n h = rw (digit_in (48 + n) (omega arith) (omega arith))

all_digits_lem : (f n : ℕ) → n ≤ f → all_digits (digits f n) ≡ true
unfolding digits
all_digits_lem zero n h = one_digit n (omega arith)
all_digits_lem (suc f) n h =
    by_size n 10 (λ l. rw (lt-ltb n 10 l) (one_digit n l))
    (λ l. rw (le-ltb n 10 l) (all_append (digits f (n / 10)) _ (all_digits_lem f (n / 10) (omega arith)) (one_digit (n % 10) (omega arith))))

pub decimal_numeral : (n : ℕ) → numeral (decimal n) ≡ true
unfolding decimal
decimal_numeral n = is_numeral (digits n n) (digits_some n n) (all_digits_lem n n (omega arith))
