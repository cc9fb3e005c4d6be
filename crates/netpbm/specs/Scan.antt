-- Inner: what the helpers of `read_p6` promise, by a scan from the left. No entry point's contract cites it. Assumes nothing.
use Rattle.std.specs.Prelude.{◌≡◌, Bool, true, false, not, cond, ◌||◌, List, [], ◌∷◌, ℕ, ◌+◌, ◌-◌, ◌*◌, ◌<◌, ◌≤◌, eqb, ltb, length, drop, Option, None, Some}
use Rattle.base.specs.Text.{digit}
use Rattle.netpbm.specs.declared.field.Number.{Number}
use Rattle.netpbm.specs.declared.reading.Heading.{Heading}
use Rattle.netpbm.specs.File.{header_white, Field, IsHeader}

-- whether a byte goes on with a gap, inside a comment or not, and whether the next byte is inside one
unfoldable pub goes_on : Bool → ℕ → Bool
goes_on true b = true
goes_on false b = header_white b || eqb b 0x23

unfoldable pub comment_after : Bool → ℕ → Bool
comment_after true b = not (eqb b 0x0A)
comment_after false b = eqb b 0x23

-- what stands after the longest gap; nothing where a comment has no end
unfoldable pub past_gap : Bool → List ℕ → List ℕ
past_gap inside [] = []
past_gap inside (b ∷ l) = cond (goes_on inside b) (past_gap (comment_after inside b) l) (b ∷ l)

-- what stands after the digits that a list begins with, and their value after n
unfoldable pub past_digits : List ℕ → List ℕ
past_digits [] = []
past_digits (b ∷ l) = cond (digit b) (past_digits l) (b ∷ l)

unfoldable pub value_of : ℕ → List ℕ → ℕ
value_of n [] = n
value_of n (b ∷ l) = cond (digit b) (value_of (n * 10 + (b - 0x30)) l) n

-- every value from 1,025 on is kept as 1,025: no side in bounds and no right maximum is as large
abbrev pub cap : ℕ
cap = 1025

unfoldable pub capped : ℕ → ℕ
capped n = cond (ltb n cap) n cap

-- a list does not begin with a digit
unfoldable pub stops : List ℕ → Bool
stops [] = true
stops (b ∷ l) = not (digit b)

pub record GapEnd (file : List ℕ) (at r : ℕ) : Type 0 where
  pub from : at ≤ r
  pub to : r ≤ length file
  pub is : past_gap false (drop at file) ≡ drop r file

pub record NumberEnd (file : List ℕ) (at : ℕ) (r : Number) : Type 0 where
  pub from : at ≤ r.next
  pub to : r.next ≤ length file
  pub is : past_digits (drop at file) ≡ drop r.next file
  pub value : r.value ≡ capped (value_of 0 (drop at file))

-- a field stands at an index, its number known up to the cap
pub record FieldAt (file : List ℕ) (at value next : ℕ) : Type 0 where
  pub from : at < next
  pub to : next ≤ length file
  pub number : ℕ
  pub field : Field (drop at file) number (drop next file)
  pub ends : stops (drop next file) ≡ true
  pub value_is : value ≡ capped number

abbrev pub Finds : List ℕ → ℕ → Option Number → Type 0
Finds file at (Some number) = FieldAt file at number.value number.next
Finds file at None = (n : ℕ) (after : List ℕ) → stops after ≡ true → Field (drop at file) n after → ⊥

-- a header stands at the start of a file, its sides known up to the cap
pub record HeaderAt (file : List ℕ) (height width start : ℕ) : Type 0 where
  pub tall : ℕ
  pub broad : ℕ
  pub to : start ≤ length file
  pub header : IsHeader file tall broad 255 (drop start file)
  pub height_is : height ≡ capped tall
  pub width_is : width ≡ capped broad

abbrev pub Heads : List ℕ → Option Heading → Type 0
Heads file (Some h) = HeaderAt file h.height h.width h.start
Heads file None = (height width : ℕ) (pixels : List ℕ) → IsHeader file height width 255 pixels → ⊥
