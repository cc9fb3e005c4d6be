-- Laws of the digits that a list begins with. Assumes nothing.
use mathlib.Core.Path.{◌≡◌, refl}
use mathlib.Core.Bool.{Bool, true, false}
use mathlib.Core.List.{List, [], ◌∷◌, ◌++◌}
use Prim.Native.Nat.{ℕ, ◌+◌, ◌-◌, ◌*◌, ◌<◌, ◌≤◌}
use borrow.Author.Tests.{not-true}
use lib.ListN.{length, get_or, drop, drop_of_length-le}
use lib.Seq.{drop-cons}
use native.Mathlib.Numerals.{add-one}
use Rattle.base.proofs.Tests.{and_both}
use Rattle.base.specs.Text.{digit, all_digits, value_after}
use Rattle.netpbm.specs.Scan.{past_digits, value_of, stops}

pub past-digits : (ds r : List ℕ) → all_digits ds ≡ true → stops r ≡ true → past_digits (ds ++ r) ≡ r
unfolding all_digits past_digits stops
past-digits [] [] a s = refl
past-digits [] (b ∷ r) a s = rw (not-true (digit b) s)
past-digits (b ∷ ds) r a s =
    let d = and_both (digit b) (all_digits ds) a in
    rw d.0 (past-digits ds r d.1 s)

pub value_digits : (n : ℕ) (ds r : List ℕ) → all_digits ds ≡ true → stops r ≡ true → value_of n (ds ++ r) ≡ value_after n ds
unfolding all_digits value_of stops value_after
value_digits n [] [] a s = refl
value_digits n [] (b ∷ r) a s = rw (not-true (digit b) s)
value_digits n (b ∷ ds) r a s =
    let d = and_both (digit b) (all_digits ds) a in
    rw d.0 (value_digits (n * 10 + (b - 0x30)) ds r d.1 s)

-- the digits themselves, and that no digit follows
abbrev pub Digits : List ℕ → List ℕ → Type 0
Digits l r = (ds : List ℕ) × (all_digits ds ≡ true) × (l ≡ ds ++ r) × (stops r ≡ true)

pub digits_split : (l : List ℕ) → Digits l (past_digits l)
unfolding past_digits stops all_digits
digits_split [] = ([], refl, refl, refl)
digits_split (b ∷ l) = go (digit b) refl (digits_split l)
  where
    go : (d : Bool) → digit b ≡ d → Digits l (past_digits l) → Digits (b ∷ l) (past_digits (b ∷ l))
    go true e s = rw e (b ∷ s.0, rw e s.1, rw (← s.2), s.3)
    go false e s = rw e ([], refl, refl, rw e)

-- one turn of the loop that looks for a number's end
module _ (file : List ℕ) (i : ℕ) where
  pub digits_on : i < length file → digit (get_or file i 0) ≡ true → past_digits (drop i file) ≡ past_digits (drop (i + 1) file)
  unfolding past_digits
  digits_on h e = rw (add-one i, drop-cons file i 0 h, e)

  pub value_on : (n : ℕ) → i < length file → digit (get_or file i 0) ≡ true
      → value_of n (drop i file) ≡ value_of (n * 10 + (get_or file i 0 - 0x30)) (drop (i + 1) file)
  unfolding value_of
  value_on n h e = rw (add-one i, drop-cons file i 0 h, e)

  pub digits_end : i < length file → digit (get_or file i 0) ≡ false → past_digits (drop i file) ≡ drop i file
  unfolding past_digits
  digits_end h e = rw (drop-cons file i 0 h, e)

  pub value_end : (n : ℕ) → i < length file → digit (get_or file i 0) ≡ false → value_of n (drop i file) ≡ n
  unfolding value_of
  value_end n h e = rw (drop-cons file i 0 h, e)

  pub digits_all : length file ≤ i → past_digits (drop i file) ≡ drop i file
  unfolding past_digits
  digits_all h = rw (drop_of_length-le file h)

  pub value_all : (n : ℕ) → length file ≤ i → value_of n (drop i file) ≡ n
  unfolding value_of
  value_all n h = rw (drop_of_length-le file h)
