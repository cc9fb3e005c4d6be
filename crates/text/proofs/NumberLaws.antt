-- Numerals, digit by digit, and the numbers that they make.
--     no_bytes                               what is no numeral
--     numeral_is                             what is one
--     digits_both                            digits that stand from a place on, by the byte there
--     value_on, value_end, value_le          their value after a number
--     no_magnitude, too_large, is_magnitude  what `magnitude_of` then is
--     magnitude_le                           and that its value is no more than the limit
--     no_form, in_form                       what digits make with a sign, by their form
--     signed_is                              it is the magnitude with the sign;
--     in-range, out_of_range                 and by the number that they say;
--     pos_in, pos_out, neg_in, neg_out, pos_range, neg_range       which is in range or not
--     minus_one, below_zero                  -1 - m, and -n, as the machine has them
--     number_none .. number_bare             a number by its first byte
--     read_back                              a number that is printed in decimal is read as itself
-- Assumes nothing.
use Prim.Native.Nat.{ℕ, zero, suc, ◌+◌, ◌*◌, ◌-◌, ◌^◌, ◌<◌, ◌≤◌}
use mathlib.Core.Path.{◌≡◌, refl, sym, ap, ◌∙◌}
use mathlib.Core.Bool.{Bool, true, false, cond}
use mathlib.Core.List.{List, [], ◌∷◌}
use native.Mathlib.Nat.{le_trans, le_refl, zero-add}
use native.Mathlib.Omega.{arith}
use Rattle.std.proofs.lemmas.List.Elements.{All-nil, All-cons}
use borrow.Author.Tests.{le-leb, lt-leb, leb-true, lt-ltb, le-ltb, eq-eqb, ne_eqb}
use lib.Dec.{leb}
use lib.IntN.{ℤ, pos, negsuc, neg_ℤ, ◌-ℤ◌}
use lib.ListN.{length, get_or, drop, drop_of_length-le}
use mir.Syntax.{w64}
use mir.Val.{to_z}
use mir.ValLaws.{to_z_pos}
use Rattle.base.specs.Text.{decimal, digit, all_digits, numeral, value_after}
use Rattle.base.proofs.Tests.{and_both, by_size}
use Rattle.base.proofs.Clash.{clash}
use Rattle.base.proofs.Decimal.{decimal_small, decimal_value, decimal_some, decimal_lead, decimal_numeral}
use Rattle.text.specs.Number.{Number, in_range, ranged, signed, plus, minus, parsed}
use Rattle.text.specs.Magnitude.{magnitude_of}
use Rattle.std.specs.Prelude.{Result, Ok, Err, All, IsTrue, ◌↔◌}
use Rattle.text.specs.declared.number.Reason.TheVariants.{Blank, NotNumber, OutOfRange}
use Rattle.text.specs.declared.number.Reason.{Reason}
use Rattle.text.proofs.Parts.{from1}

pub no_bytes : (s : List ℕ) → length s ≡ 0 → numeral s ≡ false
unfolding numeral
no_bytes [] e = refl
no_bytes (b ∷ bs) e = absurd (omega arith)

digits_each : (s : List ℕ) → all_digits s ≡ true → All (λ b. IsTrue (digit b)) s
unfolding all_digits
digits_each [] e = All-nil _
digits_each (b ∷ bs) e =
    let p = and_both (digit b) (all_digits bs) e in All-cons (λ x. IsTrue (digit x)) b bs p.0 (digits_each bs p.1)

each_digits : (s : List ℕ) → All (λ b. IsTrue (digit b)) s → all_digits s ≡ true
unfolding all_digits
each_digits [] h = refl
each_digits (b ∷ bs) h =
    let e : digit b ≡ true = h 0 0 (omega arith) in
    rw (e, each_digits bs (λ k d l. h (suc k) d (omega arith)))

-- whether each byte is a digit
pub numeral_is : (s : List ℕ) (r : Bool) → (length s ≡ 0 → ⊥) → (IsTrue r ↔ All (λ b. IsTrue (digit b)) s) → r ≡ numeral s
unfolding numeral
numeral_is [] r h f = absurd (h refl)
numeral_is (b ∷ bs) true h f = sym (each_digits (b ∷ bs) (f.0 refl))
numeral_is (b ∷ bs) false h f = go (all_digits (b ∷ bs)) refl
  where
    go : (t : Bool) → all_digits (b ∷ bs) ≡ t → false ≡ t
    go true e = f.1 (digits_each (b ∷ bs) e)
    go false e = refl

module _ (s : List ℕ) (i : ℕ) where
  pub digits_both : i < length s → all_digits (drop i s) ≡ true → (digit (get_or s i 0) ≡ true) × (all_digits (drop (i + 1) s) ≡ true)
  unfolding all_digits
  digits_both h e = and_both (digit (get_or s i 0)) (all_digits (drop (i + 1) s)) (rw (from1 s i h) at e)

  pub value_on : (n b : ℕ) → i < length s → b ≡ get_or s i 0 → value_after n (drop i s) ≡ value_after (n * 10 + (b - 0x30)) (drop (i + 1) s)
  unfolding value_after
  value_on n b h e = rw (from1 s i h, e)

  pub value_end : (n : ℕ) → length s ≤ i → value_after n (drop i s) ≡ n
  unfolding value_after
  value_end n h = rw (drop_of_length-le s h)

pub value_le : (n : ℕ) (bs : List ℕ) → n ≤ value_after n bs
unfolding value_after
value_le n [] = le_refl n
value_le n (b ∷ bs) = le_trans {m = n * 10 + (b - 0x30)} (omega arith) (value_le (n * 10 + (b - 0x30)) bs)

module _ (limit : ℕ) (s : List ℕ) where
  pub no_magnitude : numeral s ≡ false → magnitude_of limit s ≡ Err NotNumber
  unfolding magnitude_of
  no_magnitude e = rw e

  module _ (form : numeral s ≡ true) where
    pub too_large : limit < value_after 0 s → magnitude_of limit s ≡ Err OutOfRange
    unfolding magnitude_of
    too_large h = rw (form, lt-leb (value_after 0 s) limit h)

    pub is_magnitude : value_after 0 s ≤ limit → magnitude_of limit s ≡ Ok (value_after 0 s)
    unfolding magnitude_of
    is_magnitude h = rw (form, le-leb (value_after 0 s) limit h)

  pub magnitude_le : (n : ℕ) → magnitude_of limit s ≡ Ok n → n ≤ limit
  unfolding magnitude_of
  magnitude_le n = go (numeral s) (leb (value_after 0 s) limit) refl
    where
      go : (t u : Bool) → leb (value_after 0 s) limit ≡ u → cond t (cond u (Ok (value_after 0 s)) (Err OutOfRange)) (Err NotNumber) ≡ Ok n → n ≤ limit
      go false u e q = clash cc
      go true false e q = clash cc
      go true true e q = let z : n ≡ value_after 0 s = cc in rw z (leb-true (value_after 0 s) limit e)

-- the number that a magnitude is with a sign
abbrev pub with_sign : (ℕ → ℤ) → Result ℕ Reason → Number
with_sign sign (Ok n) = Ok (sign n)
with_sign sign (Err why) = Err why

-- what a sign makes of the bytes after it
module _ (sign : ℕ → ℤ) (s : List ℕ) where
  pub no_form : numeral s ≡ false → signed sign s ≡ Err NotNumber
  unfolding signed
  no_form e = rw e

  pub in_form : numeral s ≡ true → signed sign s ≡ ranged (sign (value_after 0 s))
  unfolding signed
  in_form e = rw e

  -- where the range is what a limit says of the magnitude
  pub signed_is : (limit : ℕ) → ((n : ℕ) → in_range (sign n) ≡ leb n limit) → with_sign sign (magnitude_of limit s) ≡ signed sign s
  unfolding magnitude_of signed ranged
  signed_is limit same = rw (same (value_after 0 s)) (go (numeral s) (leb (value_after 0 s) limit))
    where
      v : ℕ
      v = value_after 0 s

      go : (t u : Bool) → with_sign sign (cond t (cond u (Ok v) (Err OutOfRange)) (Err NotNumber)) ≡ cond t (cond u (Ok (sign v)) (Err OutOfRange)) (Err NotNumber)
      go true true = refl
      go true false = refl
      go false u = refl

pub in-range : (z : ℤ) → in_range z ≡ true → ranged z ≡ Ok z
unfolding ranged
in-range z e = rw e

pub out_of_range : (z : ℤ) → in_range z ≡ false → ranged z ≡ Err OutOfRange
unfolding ranged
out_of_range z e = rw e

-- both ends of the range
pub pos_in : (n : ℕ) → n ≤ 2 ^ 63 - 1 → in_range (pos n) ≡ true
unfolding in_range
pos_in n h = lt-ltb n (2 ^ 63) (omega arith)

pub pos_out : (n : ℕ) → 2 ^ 63 - 1 < n → in_range (pos n) ≡ false
unfolding in_range
pos_out n h = le-ltb n (2 ^ 63) (omega arith)

pub neg_in : (n : ℕ) → n ≤ 2 ^ 63 → in_range (neg_ℤ (pos n)) ≡ true
unfolding in_range
neg_in zero h = refl
neg_in (suc n) h = lt-ltb n (2 ^ 63) (omega arith)

pub neg_out : (n : ℕ) → 2 ^ 63 < n → in_range (neg_ℤ (pos n)) ≡ false
unfolding in_range
neg_out zero h = absurd (omega arith)
neg_out (suc n) h = le-ltb n (2 ^ 63) (omega arith)

pub pos_range : (n : ℕ) → in_range (pos n) ≡ leb n (2 ^ 63 - 1)
pos_range n =
    by_size n (2 ^ 63) (λ h. pos_in n (omega arith) ∙ sym (le-leb n (2 ^ 63 - 1) (omega arith)))
    (λ h. pos_out n (omega arith) ∙ sym (lt-leb n (2 ^ 63 - 1) (omega arith)))

pub neg_range : (n : ℕ) → in_range (neg_ℤ (pos n)) ≡ leb n (2 ^ 63)
neg_range n =
    by_size n (2 ^ 63 + 1) (λ h. neg_in n (omega arith) ∙ sym (le-leb n (2 ^ 63) (omega arith)))
    (λ h. neg_out n (omega arith) ∙ sym (lt-leb n (2 ^ 63) (omega arith)))

minus_pos : (m : ℕ) → negsuc 0 -ℤ pos m ≡ negsuc m
minus_pos zero = refl
minus_pos (suc k) = ap (λ (j : ℕ). negsuc (suc j)) (zero-add k)

pub minus_one : (m : ℕ) → m < 2 ^ 63 → negsuc 0 -ℤ to_z w64 m ≡ negsuc m
minus_one m h = ap (λ (z : ℤ). negsuc 0 -ℤ z) (to_z_pos w64 m h) ∙ minus_pos m

pub below_zero : (n : ℕ) → (n ≡ 0 → ⊥) → negsuc (n - 1) ≡ neg_ℤ (pos n)
below_zero zero h = absurd (h refl)
below_zero (suc k) h = ap negsuc (omega arith)

-- a number by its first byte
pub number_none : (s : List ℕ) → length s ≡ 0 → Err Blank ≡ parsed s
unfolding parsed
number_none [] e = refl
number_none (b ∷ bs) e = absurd (omega arith)

pub number_minus : (s : List ℕ) → 0 < length s → get_or s 0 0 ≡ 0x2D → minus (drop 1 s) ≡ parsed s
unfolding parsed
number_minus [] h e = absurd (omega arith)
number_minus (b ∷ bs) h e = rw (eq-eqb b 0x2D e)

pub number_plus : (s : List ℕ) → 0 < length s → (get_or s 0 0 ≡ 0x2D → ⊥) → get_or s 0 0 ≡ 0x2B → plus (drop 1 s) ≡ parsed s
unfolding parsed
number_plus [] h n e = absurd (omega arith)
number_plus (b ∷ bs) h n e = rw (ne_eqb b 0x2D n, eq-eqb b 0x2B e)

pub number_bare : (s : List ℕ) → 0 < length s → (get_or s 0 0 ≡ 0x2D → ⊥) → (get_or s 0 0 ≡ 0x2B → ⊥) → plus s ≡ parsed s
unfolding parsed
number_bare [] h n m = absurd (omega arith)
number_bare (b ∷ bs) h n m = rw (ne_eqb b 0x2D n, ne_eqb b 0x2B m)

decimal_first : (n : ℕ) → 48 ≤ get_or (decimal n) 0 0
decimal_first n =
    by_size n 1 (λ l. rw (decimal_small n (omega arith)) (omega arith)) (λ l. omega (arith, decimal_lead n l))

pub read_back : (n : ℕ) → n < 2 ^ 63 → parsed (decimal n) ≡ Ok (pos n)
read_back n h =
    let s = decimal n in
    let f = decimal_first n in
    let bare = number_bare s (decimal_some n) (λ e. omega arith) (λ e. omega arith) in
    sym bare ∙ in_form pos s (decimal_numeral n) ∙ ap (λ (v : ℕ). ranged (pos v)) (decimal_value n) ∙ in-range (pos n) (pos_in n (omega arith))
