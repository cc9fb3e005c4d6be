-- What `put_result` asks of its caller. Assumes nothing.
use Rattle.std.specs.Prelude.{ℕ, ◌≤◌}

-- a result can be written: room for the longest text of 256 values and 256 outputs, and as many cells as are to be printed
pub record Fits (room label depth cells count kinds numbers : ℕ) : Type 0 where
  pub roomy : 16384 ≤ room
  pub brief : label ≤ 22
  pub shallow : depth ≤ 256
  pub held : depth ≤ cells
  pub few : count ≤ 256
  pub told : count ≤ kinds
  pub given : count ≤ numbers
