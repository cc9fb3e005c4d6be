-- `determine_runs_forever`: whether each node has an exit that is not 0 (rule 7.5); refusal 10 (rule 12.6). Assumes nothing.
use Rattle.std.specs.Prelude.{Bool, not, cond, ◌||◌, List, [], ◌∷◌, ℕ, eqb, Result}
use Rattle.base.specs.declared.edition.Edition.TheVariants.{Rust}
use Rattle.base.specs.Numbers.{Numbers, numbers, Row, row, first}
use Rattle.base.specs.Refusal.{answered}
use Rattle.base.specs.declared.refusal.Refusal.{Refusal}
use Rattle.interpreter.specs.Table.{every, wrong_table}
use Rattle.table.specs.Layout.{exit_at, mark_of}

-- all eight exits of a region are 0
abbrev pub closed : List ℕ → ℕ → Bool
closed exits region = every (λ s. eqb (exit_at exits region s) 0) 8

-- a row that is no node, or has a non-zero exit
abbrev pub onward : List ℕ → List ℕ → ℕ → Bool
onward rows exits region = eqb (mark_of rows region) 0 || not (closed exits region)

-- the answer in numbers (rules 7.5, 12.6): 1 for yes, 0 for no
unfoldable pub numbered : Result Bool Refusal → Numbers
numbered = answered (λ yes. cond yes 1 0 ∷ []) (λ r. 0 ∷ [])

-- the refusals of the call, which is of edition 1 (rule 16.7), its answer where none is given, and what is answered
abbrev pub refusals : ℕ → List ℕ → List ℕ → List Row
refusals n rows exits = row (wrong_table Rust n rows exits) (numbers 10 (0 ∷ [])) ∷ []

abbrev pub verdict : List ℕ → List ℕ → ℕ → Numbers
verdict rows exits n = numbers 0 (cond (every (onward rows exits) n) 1 0 ∷ [])

abbrev pub answer : ℕ → List ℕ → List ℕ → Numbers
answer n rows exits = first (refusals n rows exits) (verdict rows exits n)
