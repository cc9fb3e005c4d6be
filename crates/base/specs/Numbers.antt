-- Answers in numbers, and a call's table of refusals as data (rules 12.1, 12.2). Assumes nothing.
use Rattle.std.specs.Prelude.{Bool, true, false, List, [], ◌∷◌, ℕ, zero, suc}

-- the number of a refusal, 0 where the call is done, and the values that go with it: of a refusal its place, where one is
-- named, and zeros (rule 12.1)
pub data Numbers : Type 0 where
  numbers : ℕ → List ℕ → Numbers

abbrev pub number_of : Numbers → ℕ
number_of (numbers n values) = n

abbrev pub values_of : Numbers → List ℕ
values_of (numbers n values) = values

-- a row of a call's table of refusals: given exactly when this holds; what is answered then
pub data Row : Type 0 where
  row : Bool → Numbers → Row

-- the rows are tested in their order: the first that holds, and the last answer where none does
unfoldable pub first : List Row → Numbers → Numbers
first [] last = last
first (row true n ∷ rows) last = n
first (row false n ∷ rows) last = first rows last

-- what is lent is as it was where the call is refused (rule 12.1)
abbrev pub unless_refused : {A : Type 0} → Numbers → A → A → A
unless_refused (numbers zero values) new old = new
unless_refused (numbers (suc n) values) new old = old
