-- Number lines that were skipped, counted by the reason (rules 10.8, 10.9). Assumes nothing.
use Rattle.std.specs.Prelude.{cond, List, [], ◌∷◌, ℕ, ◌+◌, ◌^◌, ◌<◌, eqb, get_or}
use Rattle.text.specs.declared.number.Reason.{Reason}
use Rattle.text.specs.declared.number.Reason.TheVariants.{Ended, Blank, NotNumber, OutOfRange}
use Rattle.text.specs.declared.input.Taken.{Taken}
use Rattle.text.specs.declared.input.Taken.TheVariants.{Push, Skip, BadInput}
use Rattle.machine.specs.declared.Skips.{Skips}

-- the four counts in their order (rule 8.5), and where a reason stands among them
abbrev pub counts_of : Skips → List ℕ
counts_of s = s.ended ∷ s.blank ∷ s.not_number ∷ s.out_of_range ∷ []

unfoldable pub index_of : Reason → ℕ
index_of Ended = 0
index_of Blank = 1
index_of NotNumber = 2
index_of OutOfRange = 3

abbrev pub count_of : Reason → Skips → ℕ
count_of why s = get_or (counts_of s) (index_of why) 0

abbrev pub total : Skips → ℕ
total s = s.ended + s.blank + s.not_number + s.out_of_range

-- one more can be counted in 64 bits
abbrev pub Countable : Skips → Type 0
Countable s = total s + 1 < 2 ^ 64

-- before any line was skipped
abbrev pub no_skips : Skips
no_skips = record { ended = 0; blank = 0; not_number = 0; out_of_range = 0 }

-- 1 where the two are one reason, else 0
unfoldable pub one : Reason → Reason → ℕ
one why other = cond (eqb (index_of why) (index_of other)) 1 0

-- one more of a reason
unfoldable pub one_more : Reason → Skips → Skips
one_more why s = record {
  ended = s.ended + one why Ended;
  blank = s.blank + one why Blank;
  not_number = s.not_number + one why NotNumber;
  out_of_range = s.out_of_range + one why OutOfRange;
}

-- the counts after a number line was taken
unfoldable pub counted : Taken → Skips → Skips
counted (Push v n) s = s
counted (Skip n why) s = one_more why s
counted BadInput s = s

-- how many of the reasons are this one
unfoldable pub times : Reason → List Reason → ℕ
times why [] = 0
times why (w ∷ ws) = one w why + times why ws
