-- Inner: what writers promise of a word of which a bound is known. No entry point's contract cites it.
-- Assumes nothing.
use Rattle.std.specs.Prelude.{List, ℕ, ◌≤◌, length}
use Rattle.base.specs.Lent.{Put}

-- a word of at most so many bytes was written
pub record Wrote (d : List ℕ) (at : ℕ) (word : List ℕ) (r : ℕ) (d' : List ℕ) (most : ℕ) : Type 0 where
  pub put : Put d at word r d'
  pub short : length word ≤ most
