-- The shortest file is a picture, and no other file of the same picture has fewer bytes. Assumes nothing.
use mathlib.Core.Path.{◌≡◌, ◌∙◌, sym, ap, refl}
use mathlib.Core.Bool.{true}
use mathlib.Core.List.{List, [], ◌∷◌, ◌++◌, append_assoc}
use Prim.Native.Nat.{ℕ, suc, ◌+◌, ◌-◌, ◌*◌, ◌^◌, ◌<◌, ◌≤◌}
use native.Mathlib.Nat.{pow-succ', mul_assoc, mul-le-mul, le_refl, lt_of_lt_of_le}
use native.Mathlib.Omega.{arith}
use lib.ListN.{length, length-append}
use Rattle.base.specs.Text.{ascii, decimal, digit, all_digits, numeral, value_after}
use Rattle.base.proofs.Decimal.{decimal_length, decimal_value, decimal_numeral}
use Rattle.base.proofs.Digits.{digit_range, numeral_some, numeral_all}
use Rattle.base.proofs.Tests.{and_both}
use Rattle.netpbm.specs.File.{header_white, none, white, Gap, Field, IsP6, line, shortest}
use Rattle.netpbm.proofs.WriteLaws.{one_digit, one_more, shortest_length}

-- one newline is a gap
newline : Gap (10 ∷ [])
unfolding header_white
newline = record { some = omega arith; spacing = white 10 [] refl (none refl) refl }

field : (text : List ℕ) (n : ℕ) (after : List ℕ) → numeral text ≡ true → n ≡ value_after 0 text → Field (10 ∷ (text ++ after)) n after
field text n after k v = record { gap = 10 ∷ []; text = text; apart = newline; number = k; value = v; is = refl }

side_field : (n : ℕ) (after : List ℕ) → Field (10 ∷ (decimal n ++ after)) n after
side_field n after = field (decimal n) n after (decimal_numeral n) (sym (decimal_value n))

maximum_field : (after : List ℕ) → Field (10 ∷ (ascii "255" ++ after)) 255 after
unfolding numeral all_digits digit value_after
maximum_field after = field (ascii "255") 255 after refl refl

pub shortest_is : (height width : ℕ) (pixels : List ℕ) → length pixels ≡ 3 * (height * width) → IsP6 (shortest height width pixels) height width pixels
unfolding shortest line header_white
shortest_is height width pixels e =
    let after-height : List ℕ = 10 ∷ (ascii "255" ++ 10 ∷ pixels) in
    let after-width : List ℕ = 10 ∷ (decimal height ++ after-height) in
    let after-magic : List ℕ = 10 ∷ (decimal width ++ after-width) in
    record {
      header =
          record {
            after-magic = after-magic;
            after-width = after-width;
            after-height = after-height;
            last = 10;
            magic = simp append_assoc;
            wide = side_field width after-width;
            high = side_field height after-height;
            most = maximum_field (10 ∷ pixels);
            white = refl;
          };
      bytes = e;
    }

-- k digits make a number below 10 ^ k
value_below : (n : ℕ) (l : List ℕ) → all_digits l ≡ true → value_after n l < (n + 1) * 10 ^ length l
unfolding all_digits value_after
value_below n [] a = omega arith
value_below n (b ∷ l) a =
    let s = and_both (digit b) (all_digits l) a in
    let r = digit_range b s.0 in
    let i = value_below (n * 10 + (b - 0x30)) l s.1 in
    let m : (n * 10 + (b - 0x30) + 1) * 10 ^ length l ≤ ((n + 1) * 10) * 10 ^ length l = mul-le-mul (omega arith) (le_refl (10 ^ length l)) in
    let e : ((n + 1) * 10) * 10 ^ length l ≡ (n + 1) * 10 ^ suc (length l) =
    mul_assoc (n + 1) 10 (10 ^ length l) ∙ ap (λ (k : ℕ). (n + 1) * k) (sym (pow-succ' 10 (length l))) in
    rw (← e) (lt_of_lt_of_le i m)

-- so that a numeral has no fewer digits than the decimal
numeral_long : (l : List ℕ) → numeral l ≡ true → length (decimal (value_after 0 l)) ≤ length l
numeral_long [] k = absurd (omega (arith, numeral_some [] k))
numeral_long (b ∷ l) k =
    let h : value_after 0 (b ∷ l) < 1 * 10 ^ suc (length l) = value_below 0 (b ∷ l) (numeral_all (b ∷ l) k) in
    decimal_length (length l) (value_after 0 (b ∷ l)) (omega arith)

field_long : {l : List ℕ} {n : ℕ} {after : List ℕ} → Field l n after → 1 + length (decimal n) + length after ≤ length l
field_long {l} {n} {after} f =
    let g = f.apart.some in
    let e = ap length f.is ∙ length-append f.gap (f.text ++ after) in
    omega (arith, length-append f.text after, rw (← f.value) at (numeral_long f.text f.number))

three : length (decimal 255) ≡ 3
three = omega (arith, one_more 255 (omega arith), one_more 25 (omega arith), one_digit 2 (omega arith))

pub shortest_least : {file : List ℕ} {height width : ℕ} {pixels : List ℕ} → IsP6 file height width pixels
    → length (shortest height width pixels) ≤ length file
shortest_least {file} {height} {width} {pixels} a =
    let h = a.header in
    omega (
      arith,
      shortest_length height width pixels,
      ap length h.magic,
      field_long h.wide,
      field_long h.high,
      field_long h.most,
      three,
    )
