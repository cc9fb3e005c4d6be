-- What is printed for a picture that is to be shaded: how often each codel's block was entered (rules 17.1, 18.5). Assumes nothing.
use Rattle.std.specs.Prelude.{◌≡◌, Bool, cond, List, [], ◌++◌, ℕ, zero, suc, ◌%◌, eqb, get_or}
use Rattle.base.specs.Counting.{count}
use Rattle.base.specs.Text.{ascii, decimal}
use Rattle.picture.specs.Picture.{Picture, cols_of, codels}
use Rattle.machine.specs.Place.{End}
use Rattle.visits.specs.Outcome.{uncountable}
use Rattle.piet.specs.Follows.{entered_by}
use Rattle.piet.specs.RunPicture.{asked_picture}
use Rattle.job.specs.Encoding.{Content}
use Rattle.report.specs.Text.{newline, refusal_text}
use Rattle.answer.specs.Program.{asked_of, Ran, Printed}

-- a count, and a newline after it where it is the last of its row, else a blank
abbrev pub entry_text : ℕ → Bool → List ℕ
entry_text times last = decimal times ++ cond last newline (ascii " ")

-- where the map has the regions of a picture's codels, and these are the regions entered
module _ (p : Picture) (map entered : List ℕ) where
  -- how often codel i's region was entered
  abbrev pub codel_text : ℕ → List ℕ
  codel_text i = entry_text (count (get_or map i 0) entered) (eqb (suc i % cols_of p) 0)

  -- the first n codels, row by row
  unfoldable pub counts_text : ℕ → List ℕ
  counts_text zero = []
  counts_text (suc n) = counts_text n ++ codel_text n

-- the text for a job that the run program does not refuse
pub data Shaded (c : Content) (text : List ℕ) : Type 0 where
  -- its limit is too large to count by: 16 (rules 12.11, 17.3)
  uncounted : c.limit ≡ uncountable → text ≡ refusal_text 16 → Shaded c text
  -- the regions entered are those of the picture's walk
  shaded : (c.limit ≡ uncountable → ⊥) → (map : List ℕ) (e : End) (R : Ran c map e)
      → text ≡ counts_text (asked_picture (asked_of c)) map (entered_by R.follows.history) (codels (asked_picture (asked_of c))) → Shaded c text

-- what a call answers and leaves
abbrev pub Outcome : List ℕ → List ℕ → ℕ → List ℕ → Type 0
Outcome = Printed Shaded 16384
