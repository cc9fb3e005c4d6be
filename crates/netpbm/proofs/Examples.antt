-- Worked examples of reading and writing, each with room for nine bytes. Assumes nothing.
use mathlib.Core.Path.{◌≡◌, refl}
use mathlib.Core.List.{List, [], ◌∷◌, map}
use Prim.Native.Nat.{ℕ}
use Rattle.base.specs.Numbers.{Numbers, numbers, first}
use Rattle.base.specs.Text.{ascii, decimal, digits, digit}
use Rattle.netpbm.specs.File.{header_white, line, shortest}
use Rattle.netpbm.specs.Scan.{goes_on, comment_after, past_gap, past_digits, value_of}
use Rattle.netpbm.specs.Reads.{answer, refusals}
use Rattle.netpbm.proofs.Scanned.{part_of, scanned}

abbrev answered : List ℕ → Numbers
answered file = answer (scanned file) 9

abbrev sized : ℕ → ℕ → Numbers
sized height width = numbers 0 (height ∷ width ∷ [])

abbrev refused : ℕ → Numbers
refused number = numbers number (0 ∷ 0 ∷ [])

-- done: one comment as the only separator, comments with a `#` and a return in them, white space of each kind, a
-- comment between two numbers, leading zeros, a maximum of four digits, pixels that look like a comment
done : map answered
    (ascii "P6 1 1 255\nabc"
    ∷ ascii "P6#\n1#\n1#\n255\nabc"
    ∷ ascii "P6 # a # b\r c\n\t1\r\n1 255\rabc"
    ∷ ascii "P6 1#9\n2 255\nabcdef"
    ∷ ascii "P6 0001 1 0255\nabc"
    ∷ ascii "P6 1 1 255 #\n#"
    ∷ ascii "P6 1 1 255\r\nab"
    ∷ ascii "P6 2 1 255\nabcdef"
    ∷ [])
    ≡ sized 1 1 ∷ sized 1 1 ∷ sized 1 1 ∷ sized 2 1 ∷ sized 1 1 ∷ sized 1 1 ∷ sized 1 1 ∷ sized 1 2 ∷ []
unfolding answer refusals first scanned part_of past_gap goes_on comment_after header_white past_digits digit value_of
done = refl

-- 13: a vertical tab, no gap, a blank before it, a return that ends no comment, a comment after the maximum, none of the
-- last byte, a sign, other maxima, the maximum before the size
header : map answered
    ((80 ∷ 54 ∷ 11 ∷ ascii "1 1 255\nabc")
    ∷ ascii "P61 1 255\nabc"
    ∷ ascii " P6 1 1 255\nabc"
    ∷ ascii "P6#c\r1 1 255\nabc"
    ∷ ascii "P6 1 1 255#\nabc"
    ∷ ascii "P6 0 0 255"
    ∷ ascii "P6 +1 1 255\nabc"
    ∷ ascii "P6 1 1 18446744073709551871\nabc"
    ∷ ascii "P6 2000 1 256\n"
    ∷ [])
    ≡ refused 13 ∷ refused 13 ∷ refused 13 ∷ refused 13 ∷ refused 13 ∷ refused 13 ∷ refused 13 ∷ refused 13 ∷ refused 13 ∷ []
unfolding answer refusals first scanned part_of past_gap goes_on comment_after header_white past_digits digit value_of
header = refl

-- 1: no side, 2 ^ 64 + 1; 14: too few, too many, before the room; 4
others : map answered
    (ascii "P6 0 0 255\n"
    ∷ ascii "P6 18446744073709551617 1 255\nabc"
    ∷ ascii "P6 1025 1 255\n"
    ∷ ascii "P6 1 1 255\n"
    ∷ ascii "P6 1 1 255\nabc\n"
    ∷ ascii "P6 1 4 255\nab"
    ∷ ascii "P6 1 4 255\nabcdefghijkl"
    ∷ [])
    ≡ refused 1 ∷ refused 1 ∷ refused 1 ∷ refused 14 ∷ refused 14 ∷ refused 14 ∷ refused 4 ∷ []
unfolding answer refusals first scanned part_of past_gap goes_on comment_after header_white past_digits digit value_of
others = refl

written : shortest 1 2 (ascii "abcdef") ≡ ascii "P6\n2\n1\n255\nabcdef"
unfolding shortest line decimal digits
written = refl
