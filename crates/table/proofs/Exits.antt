-- An exit number says what it was made of, and the largest one is rule 7.3's. Assumes nothing.
use mathlib.Core.Path.{◌≡◌, refl}
use Prim.Native.Nat.{ℕ, ◌<◌, ◌≤◌}
use native.Mathlib.Omega.{arith}
use Rattle.base.specs.declared.edition.Edition.{Edition}
use Rattle.base.specs.declared.edition.Edition.TheVariants.{Rust, Page}
use Rattle.table.specs.ExitNumber.{exit_number, target_of, state_of, instruction_of, largest_exit, largest_in}

module _ (target state instruction : ℕ) (h : target < 65536) (k : state < 8) where
  pub target_back : target_of (exit_number target state instruction) ≡ target
  target_back = omega arith

  pub state_back : state_of (exit_number target state instruction) ≡ state
  state_back = omega arith

  pub instruction_back : instruction_of (exit_number target state instruction) ≡ instruction
  instruction_back = omega arith

  pub in-range : instruction ≤ 17 → exit_number target state instruction ≤ largest_exit
  in-range l = omega arith

pub largest : exit_number 65535 7 17 ≡ largest_exit
largest = refl

-- and stands in both editions
pub largest-in : (e : Edition) → largest_exit ≤ largest_in e
largest-in Rust = omega arith
largest-in Page = omega arith
