-- What a call writes into a lent list. Assumes nothing.
use Rattle.std.specs.Prelude.{◌≡◌, List, ◌++◌, ℕ, ◌+◌, ◌-◌, ◌≤◌, length, take, drop, replicate}

-- a list with a word written over it from an index on
unfoldable pub over : {A : Type 0} → List A → ℕ → List A → List A
over d at word = take at d ++ word ++ drop (at + length word) d

-- a lent list with a result at its start, and past it as it was
unfoldable pub lent : {A : Type 0} → List A → List A → List A
lent result before = result ++ drop (length result) before

-- the cells from an index up to another hold one value, the others are as they were
unfoldable pub filled : {A : Type 0} → ℕ → ℕ → A → List A → List A
filled from to v d = over d from (replicate (to - from) v)

-- a list has room for a word at an index
pub record Room (d : List ℕ) (at : ℕ) (word : List ℕ) : Type 0 where
  pub enough : at + length word ≤ length d

-- a word was written over a list at an index; r is the index after it
pub record Put (d : List ℕ) (at : ℕ) (word : List ℕ) (r : ℕ) (d' : List ℕ) : Type 0 where
  pub next : r ≡ at + length word
  pub list : d' ≡ over d at word
