-- The definitions at worked examples. Assumes nothing.
use mathlib.Core.Path.{◌≡◌, refl}
use mathlib.Core.Bool.{true, false}
use Prim.Native.Nat.{ℕ}
use mathlib.Core.List.{List, [], ◌∷◌}
use lib.IntN.{pos, negsuc}
use Rattle.base.specs.Text.{ascii, digit, all_digits, numeral, value_after}
use Rattle.base.specs.declared.edition.Edition.{Edition}
use Rattle.base.specs.declared.edition.Edition.TheVariants.{Rust, Page}
use Rattle.text.specs.Line.{line_length}
use Rattle.text.specs.Range.{within}
use Rattle.text.specs.Utf8.{scalar, scalars, encode, encodes}
use Rattle.text.specs.White.{white_space, trim_start}
use Rattle.text.specs.Number.{in_range, ranged, signed, parsed}
use Rattle.text.specs.Input.{char_of, int_of, push_or_skip, whole_line, char_next}
use Rattle.text.specs.Reading.{back, rest, chars, same, valid, take_of}
use Rattle.text.specs.declared.input.Taken.{Taken}
use Rattle.text.specs.declared.input.Taken.TheVariants.{Push, Skip, BadInput}
use Rattle.std.specs.Prelude.{Ok, Err}
use Rattle.text.specs.declared.number.Reason.TheVariants.{Ended, Blank, NotNumber, OutOfRange}

-- é, €, 𝄞
letters : encodes (0xE9 ∷ 0x20AC ∷ 0x1D11E ∷ []) ≡ 0xC3 ∷ 0xA9 ∷ 0xE2 ∷ 0x82 ∷ 0xAC ∷ 0xF0 ∷ 0x9D ∷ 0x84 ∷ 0x9E ∷ []
unfolding encode encodes
letters = refl

-- the last scalar below the surrogates, the first of them, and the first number past all scalars
below_gap : scalar 0xD7FF ≡ true
unfolding scalar within
below_gap = refl

surrogate : scalar 0xD800 ≡ false
unfolding scalar within
surrogate = refl

past_all : scalar 0x110000 ≡ false
unfolding scalar within
past_all = refl

-- `7`, newline, `8`
line : line_length (0x37 ∷ 10 ∷ 0x38 ∷ []) ≡ 2
unfolding line_length
line = refl

-- a narrow no-break space is white space, a zero width space is none
narrow : white_space 0x202F ≡ true
unfolding white_space within
narrow = refl

none : white_space 0x200B ≡ false
unfolding white_space within
none = refl

-- U+3000, `-12`, a carriage return, a newline
int : int_of (0x3000 ∷ 0x2D ∷ 0x31 ∷ 0x32 ∷ 13 ∷ 10 ∷ []) ≡ Ok (negsuc 11)
unfolding encode encodes white_space within trim_start digit all_digits numeral value_after in_range ranged signed parsed int_of
int = refl

-- signs and zeros
plus_five : parsed (ascii "+5") ≡ Ok (pos 5)
unfolding digit all_digits numeral value_after in_range ranged signed parsed
plus_five = refl

minus_zero : parsed (ascii "-0") ≡ Ok (pos 0)
unfolding digit all_digits numeral value_after in_range ranged signed parsed
minus_zero = refl

zeros : parsed (ascii "007") ≡ Ok (pos 7)
unfolding digit all_digits numeral value_after in_range ranged signed parsed
zeros = refl

-- no form of a number: a sign alone, two signs, a space after a sign, two numbers, a letter after digits that are too many
no_form : (parsed (ascii "+") ≡ Err NotNumber)
    × (parsed (ascii "--1") ≡ Err NotNumber)
    × (parsed (ascii "- 5") ≡ Err NotNumber)
    × (parsed (ascii "1 2") ≡ Err NotNumber)
    × (parsed (ascii "9223372036854775808x") ≡ Err NotNumber)
unfolding digit all_digits numeral value_after in_range ranged signed parsed
no_form = (refl, refl, refl, refl, refl)

-- the ends of i64, leading zeros and all, and one past each
ends : (parsed (ascii "9223372036854775807") ≡ Ok (pos 9223372036854775807))
    × (parsed (ascii "-0009223372036854775808") ≡ Ok (negsuc 9223372036854775807))
    × (parsed (ascii "9223372036854775808") ≡ Err OutOfRange)
    × (parsed (ascii "-9223372036854775809") ≡ Err OutOfRange)
unfolding digit all_digits numeral value_after in_range ranged signed parsed
ends = (refl, refl, refl, refl)

-- white space alone, U+3000 too, is a blank line; no line at all is the end of the input
nothing : (int_of (0x20 ∷ 0x3000 ∷ 13 ∷ 10 ∷ []) ≡ Err Blank) × (int_of [] ≡ Err Ended)
unfolding encodes white_space within trim_start parsed int_of
nothing = (refl, refl)

-- what IntIn takes of the input at a place, and CharIn in an edition
abbrev int_in : List ℕ → ℕ → Taken
int_in s at = take_of int_of whole_line s at

abbrev char_in : Edition → List ℕ → ℕ → Taken
char_in e s at = take_of char_of (char_next e) s at

-- ` -12`, newline, `7`: the line is taken and -12 pushed. A line with a lone continuation byte is refused
taken : int_in (0x20 ∷ 0x2D ∷ 0x31 ∷ 0x32 ∷ 10 ∷ 0x37 ∷ []) 0 ≡ Push (negsuc 11) 5
unfolding scalar scalars encode encodes white_space within trim_start digit all_digits numeral value_after in_range ranged signed parsed int_of line_length back rest chars same valid push_or_skip take_of
taken = refl

refused : int_in (0x31 ∷ 0x80 ∷ 10 ∷ []) 0 ≡ BadInput
unfolding scalar scalars encode encodes within line_length back rest chars same valid push_or_skip take_of
refused = refl

-- CharIn pushes the newline of an empty line, and is skipped at the end of the input, in both editions
empty : (char_in Rust (10 ∷ []) 0 ≡ Push (pos 10) 1) × (char_in Page (10 ∷ []) 0 ≡ Push (pos 10) 1)
unfolding scalar scalars encode encodes within line_length back rest chars same valid push_or_skip take_of char_of char_next
empty = (refl, refl)

at_end : (char_in Rust (10 ∷ []) 1 ≡ Skip 1 Ended) × (char_in Page (10 ∷ []) 1 ≡ Skip 1 Ended)
unfolding scalars encodes line_length chars same valid push_or_skip take_of char_of char_next
at_end = (refl, refl)

-- `ab`, newline, `cd`, newline: two CharIn take two lines in edition 1, two characters of the first line in edition 2
two_lines : (char_in Rust (ascii "ab\ncd\n") 0 ≡ Push (pos 97) 3) × (char_in Rust (ascii "ab\ncd\n") 3 ≡ Push (pos 99) 6)
unfolding scalar scalars encode encodes within line_length back rest chars same valid push_or_skip take_of char_of char_next
two_lines = (refl, refl)

two_chars : (char_in Page (ascii "ab\ncd\n") 0 ≡ Push (pos 97) 1) × (char_in Page (ascii "ab\ncd\n") 1 ≡ Push (pos 98) 2)
unfolding scalar scalars encode encodes within line_length back rest chars same valid push_or_skip take_of char_of char_next
two_chars = (refl, refl)

-- a carriage return and a newline are two characters
return_newline : (char_in Page (13 ∷ 10 ∷ []) 0 ≡ Push (pos 13) 1) × (char_in Page (13 ∷ 10 ∷ []) 1 ≡ Push (pos 10) 2)
unfolding scalar scalars encode encodes within line_length back rest chars same valid push_or_skip take_of char_of char_next
return_newline = (refl, refl)

-- after CharIn in edition 2: IntIn takes what is left of the line, and where that is the newline alone it is skipped
left_number : int_in (ascii "a12\n3") 1 ≡ Push (pos 12) 4
unfolding scalar scalars encode encodes white_space within trim_start digit all_digits numeral value_after in_range ranged signed parsed int_of line_length back rest chars same valid push_or_skip take_of
left_number = refl

left_blank : int_in (ascii "5\n6\n") 1 ≡ Skip 2 Blank
unfolding scalar scalars encode encodes white_space within trim_start parsed int_of line_length back rest chars same valid push_or_skip take_of
left_blank = refl

-- `a`, a byte that is no UTF-8, newline: CharIn is refused for what it would leave
refused_left : char_in Page (0x61 ∷ 0xFF ∷ 10 ∷ []) 0 ≡ BadInput
unfolding scalar scalars encode encodes within line_length back rest chars same valid push_or_skip take_of
refused_left = refl

-- `a`, newline, a byte that is no UTF-8: the line before it is read to its newline
abbrev bad_second : List ℕ
bad_second = 0x61 ∷ 10 ∷ 0xFF ∷ []

refused_second : (char_in Page bad_second 0 ≡ Push (pos 97) 1)
    × (char_in Page bad_second 1 ≡ Push (pos 10) 2)
    × (char_in Page bad_second 2 ≡ BadInput)
    × (int_in bad_second 1 ≡ Skip 2 Blank)
unfolding scalar scalars encode encodes white_space within trim_start parsed int_of line_length back rest chars same valid push_or_skip take_of char_of char_next
refused_second = (refl, refl, refl, refl)
