-- The reasons to skip a line (rule 10.8) change nothing else. The earlier definition, which tells no reason, stands here, and what
-- an input instruction takes still meets it, the reason left out: the same lines give the same numbers (rule 10.3), are skipped and
-- stop the run with BadInput, and the same bytes are consumed. Nor does edition 2 change edition 1 (rule 16.4): in it
-- CharIn still takes the whole line.
--     same_as_before         IntIn
--     same_as_before_char    CharIn in edition 1
-- Assumes nothing.
use Prim.Native.Nat.{ℕ, ◌-◌, ◌^◌, ◌<◌, ◌≤◌}
use mathlib.Core.Path.{◌≡◌, refl, ap, ◌∙◌}
use mathlib.Core.Bool.{Bool, true, false, ◌&&◌, cond}
use mathlib.Core.List.{List, [], ◌∷◌}
use borrow.Author.Tests.{le-leb, lt-leb}
use lib.Dec.{leb, eqb}
use lib.IntN.{ℤ, pos, neg_ℤ}
use Rattle.base.specs.Text.{numeral, value_after}
use Rattle.base.specs.declared.edition.Edition.TheVariants.{Rust}
use Rattle.base.proofs.Tests.{by_size}
use Rattle.text.specs.Line.{line_at, line_end}
use Rattle.text.specs.Utf8.{encodes, Utf8, Valid}
use Rattle.text.specs.White.{trim_start, trimmed}
use Rattle.text.specs.Number.{in_range, ranged, signed, plus as new-plus, minus as new-minus, parsed as new-parsed}
use Rattle.text.specs.Input as new
use Rattle.text.specs.Number.{Number}
use Rattle.std.specs.Prelude.{Ok, Err}
use Rattle.text.specs.declared.number.Reason.TheVariants.{NotNumber}
use Rattle.text.specs.declared.input.Taken.{Taken}
use Rattle.text.specs.declared.input.Taken.TheVariants.{Push, Skip, BadInput}
use Rattle.text.proofs.NumberLaws.{pos_in, pos_out, neg_in, neg_out}

-- ---- the definition as it stood
-- what a line gives
pub data Was : Type 0 where
  value : ℤ → Was
  not_a_number : Was

-- the value of digits, or none
pub data Magnitude : Type 0 where
  is : ℕ → Magnitude
  not : Magnitude

-- what is taken: a number and the place after the line; that place alone; or nothing, of a line that is not UTF-8
pub data Took : Type 0 where
  push : ℤ → ℕ → Took
  skip : ℕ → Took
  bad_input : Took

-- the value of a numeral, where it is no more than the limit
unfoldable pub magnitude_of : ℕ → List ℕ → Magnitude
magnitude_of limit bs = cond (numeral bs && leb (value_after 0 bs) limit) (is (value_after 0 bs)) not

-- the number that a sign makes of a value
unfoldable pub sign : (ℕ → ℤ) → Magnitude → Was
sign f (is n) = value (f n)
sign f not = not_a_number

-- in range: from -2^63 to 2^63 - 1
abbrev pub plus : List ℕ → Was
plus bs = sign pos (magnitude_of (2 ^ 63 - 1) bs)

abbrev pub minus : List ℕ → Was
minus bs = sign (λ n. neg_ℤ (pos n)) (magnitude_of (2 ^ 63) bs)

-- a sign may stand first: 0x2D is `-`, 0x2B is `+`
unfoldable pub parsed : List ℕ → Was
parsed [] = not_a_number
parsed (b ∷ bs) = cond (eqb b 0x2D) (minus bs) (cond (eqb b 0x2B) (plus bs) (plus (b ∷ bs)))

-- CharIn: the first character of a line (rule 10.2)
unfoldable pub char_of : List ℕ → Was
char_of [] = not_a_number
char_of (c ∷ cs) = value (pos c)

-- IntIn: the number that a line is without the white space at its ends (rule 10.3)
abbrev pub int_of : List ℕ → Was
int_of cs = parsed (encodes (trimmed cs))

-- what a line gives is pushed, or the step is skipped (rule 10.4); with the place after the line
unfoldable pub push_or_skip : Was → ℕ → Took
push_or_skip (value v) n = push v n
push_or_skip not_a_number n = skip n

-- An instruction that reads f of a line takes the whole line (rule 10.1); one that is not UTF-8 is BadInput (rule 11.6).
pub data Takes (f : List ℕ → Was) (s : List ℕ) (at : ℕ) (r : Took) : Type 0 where
  reads : (cs : List ℕ) → Utf8 (line_at s at) cs → r ≡ push_or_skip (f cs) (line_end s at) → Takes f s at r
  bad : (Valid (line_at s at) → ⊥) → r ≡ bad_input → Takes f s at r

-- ---- and it still holds
-- what is taken, without the reason
unfoldable pub forget : Taken → Took
forget (Push v n) = push v n
forget (Skip n why) = skip n
forget BadInput = bad_input

-- what a line gives, without the reason
gives : Number → Was
gives (Ok v) = value v
gives (Err why) = not_a_number

forget_push : (a : Number) (n : ℕ) → forget (new.push_or_skip a n) ≡ push_or_skip (gives a) n
unfolding new.push_or_skip push_or_skip forget gives
forget_push (Ok v) n = refl
forget_push (Err why) n = refl

-- the numbers that a sign makes are in range exactly up to a limit
module _ (f : ℕ → ℤ) (limit : ℕ) (within : (n : ℕ) → n ≤ limit → in_range (f n) ≡ true)
    (over : (n : ℕ) → limit < n → in_range (f n) ≡ false) where
  same_sign : (bs : List ℕ) → gives (signed f bs) ≡ sign f (magnitude_of limit bs)
  unfolding ranged signed magnitude_of sign gives
  same_sign bs = go (numeral bs)
    where
      n : ℕ
      n = value_after 0 bs

      go : (t : Bool) → gives (cond t (ranged (f n)) (Err NotNumber)) ≡ sign f (cond (t && leb n limit) (is n) not)
      go true = by_size limit n (λ h. rw (over n h, lt-leb n limit h)) (λ h. rw (within n h, le-leb n limit h))
      go false = refl

same_plus : (bs : List ℕ) → gives (new-plus bs) ≡ plus bs
same_plus = same_sign pos (2 ^ 63 - 1) pos_in pos_out

same_minus : (bs : List ℕ) → gives (new-minus bs) ≡ minus bs
same_minus = same_sign (λ n. neg_ℤ (pos n)) (2 ^ 63) neg_in neg_out

same_parsed : (l : List ℕ) → gives (new-parsed l) ≡ parsed l
unfolding new-parsed parsed gives
same_parsed [] = refl
same_parsed (b ∷ bs) = go (eqb b 0x2D) (eqb b 0x2B)
  where
    go : (m p : Bool)
        → gives (cond m (new-minus bs) (cond p (new-plus bs) (new-plus (b ∷ bs))))
        ≡ cond m (minus bs) (cond p (plus bs) (plus (b ∷ bs)))
    go true p = same_minus bs
    go false true = same_plus bs
    go false false = same_plus (b ∷ bs)

same_int : (cs : List ℕ) → gives (new.int_of cs) ≡ int_of cs
unfolding encodes trim_start new.int_of parsed gives
same_int [] = refl
same_int (c ∷ cs) = same_parsed (encodes (trimmed (c ∷ cs)))

same_char : (cs : List ℕ) → gives (new.char_of cs) ≡ char_of cs
unfolding new.char_of char_of gives
same_char [] = refl
same_char (c ∷ cs) = refl

-- where a line gives the same, and reading goes on after it, the same is taken
module _ (f : List ℕ → Number) (g : List ℕ → Was) (same : (cs : List ℕ) → gives (f cs) ≡ g cs) where
  same_takes : (s : List ℕ) (at : ℕ) (t : Taken) → new.Takes f new.whole_line s at t → Takes g s at (forget t)
  unfolding forget
  same_takes s at t (new.reads cs u e) =
      reads cs u (ap forget e ∙ forget_push (f cs) (line_end s at) ∙ ap (λ (a : Was). push_or_skip a (line_end s at)) (same cs))
  same_takes s at t (new.bad h e) = bad h (ap forget e)

pub same_as_before : (s : List ℕ) (at : ℕ) (t : Taken) → new.Takes new.int_of new.whole_line s at t → Takes int_of s at (forget t)
same_as_before = same_takes new.int_of int_of same_int

pub same_as_before_char : (s : List ℕ) (at : ℕ) (t : Taken) → new.Takes new.char_of (new.char_next Rust) s at t → Takes char_of s at (forget t)
unfolding new.char_next
same_as_before_char = same_takes new.char_of char_of same_char
