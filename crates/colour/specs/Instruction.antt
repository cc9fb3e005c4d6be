-- The instructions by their numbers, in the order of the Rust's `Instruction` (rule 1.5). Assumes nothing.
use Rattle.std.specs.Prelude.{ℕ}

abbrev pub none : ℕ
none = 0

abbrev pub push : ℕ
push = 1

abbrev pub pop : ℕ
pop = 2

abbrev pub add : ℕ
add = 3

abbrev pub sub : ℕ
sub = 4

abbrev pub mul : ℕ
mul = 5

abbrev pub div : ℕ
div = 6

abbrev pub mod' : ℕ
mod' = 7

abbrev pub not' : ℕ
not' = 8

abbrev pub gt : ℕ
gt = 9

abbrev pub ptr : ℕ
ptr = 10

abbrev pub swi : ℕ
swi = 11

abbrev pub dup : ℕ
dup = 12

abbrev pub roll : ℕ
roll = 13

abbrev pub char_in : ℕ
char_in = 14

abbrev pub char_out : ℕ
char_out = 15

abbrev pub int_in : ℕ
int_in = 16

abbrev pub int_out : ℕ
int_out = 17
