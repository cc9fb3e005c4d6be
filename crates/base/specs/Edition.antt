-- The editions of the rules, and the one place where an edition is made from its number (rule 16.1). Assumes nothing.
use Rattle.std.specs.Prelude.{Bool, not, cond, ◌||◌, ℕ, eqb, Result, Ok, Err}
use Rattle.base.specs.declared.edition.Edition.{Edition}
use Rattle.base.specs.declared.edition.Edition.TheVariants.{Rust, Page}
use Rattle.base.specs.declared.refusal.Refusal.{Refusal}
use Rattle.base.specs.declared.refusal.Refusal.TheVariants.{Edition as no_edition}

-- the numbers of the two editions
abbrev pub rust_number : ℕ
rust_number = 1

abbrev pub page_number : ℕ
page_number = 2

-- every other number, 0 too, names none: refusal 15 (rule 12.2)
abbrev pub unknown_edition : ℕ → Bool
unknown_edition n = not (eqb n rust_number || eqb n page_number)

-- the edition of a number; one that names none is refused, and what it would name is never asked
abbrev pub edition_of : ℕ → Edition
edition_of n = cond (eqb n page_number) Page Rust

-- what a number is taken for: its edition, or the refusal
abbrev pub edition_numbered : ℕ → Result Edition Refusal
edition_numbered n = cond (unknown_edition n) (Err no_edition) (Ok (edition_of n))

-- what is chosen by the edition: the Rust program's, and the public page's
abbrev pub by_edition : {A : Type 0} → Edition → A → A → A
by_edition Rust rust page = rust
by_edition Page rust page = page
