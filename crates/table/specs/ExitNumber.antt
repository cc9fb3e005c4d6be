-- The exit number (rules 7.3, 16.5). Assumes nothing.
use Rattle.std.specs.Prelude.{ℕ, ◌+◌, ◌-◌, ◌*◌, ◌/◌, ◌%◌}
use Rattle.base.specs.declared.edition.Edition.{Edition}
use Rattle.base.specs.Edition.{by_edition}

-- the number of an open exit; 0 where there is none
abbrev pub exit_number : ℕ → ℕ → ℕ → ℕ
exit_number target state instruction = 1 + target + 65536 * state + 524288 * instruction

-- what an open exit says
abbrev pub target_of : ℕ → ℕ
target_of exit = (exit - 1) % 65536

abbrev pub state_of : ℕ → ℕ
state_of exit = (exit - 1) / 65536 % 8

abbrev pub instruction_of : ℕ → ℕ
instruction_of exit = (exit - 1) / 524288

-- the largest: that of region 65,535 in state 7 with instruction 17; in edition 1 a larger one is refusal 10 (rule 12.2)
abbrev pub largest_exit : ℕ
largest_exit = 9437184

-- one above it: in edition 2 the exit of a slide that is lost (rule 16.5); it names no region
abbrev pub lost_slide : ℕ
lost_slide = 9437185

-- the largest number that an exit may have (rules 12.2, 16.5)
abbrev pub largest_in : Edition → ℕ
largest_in e = by_edition e largest_exit lost_slide
