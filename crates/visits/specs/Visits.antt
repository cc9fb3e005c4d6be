-- Which nodes a run never enters, by how often it enters each region (rule 17.4). Assumes nothing.
use Rattle.std.specs.Prelude.{Bool, ◌&&◌, List, ◌++◌, ℕ, ◌-◌, eqb, length, replicate}
use Rattle.base.specs.Counting.{up_to, those}
use Rattle.table.specs.Layout.{mark_of}

-- a node, which its mark says, that is entered no times
abbrev pub never_entered : List ℕ → (ℕ → ℕ) → ℕ → Bool
never_entered rows times r = eqb (mark_of rows r) 1 && eqb (times r) 0

module _ (n : ℕ) (rows : List ℕ) (times : ℕ → ℕ) where
  -- all of them, rising
  abbrev pub unvisited_of : List ℕ
  unvisited_of = those (never_entered rows times) (up_to n)

  -- and zeros after them, up to n cells
  abbrev pub list_of : List ℕ
  list_of = unvisited_of ++ replicate (n - length unvisited_of) 0
