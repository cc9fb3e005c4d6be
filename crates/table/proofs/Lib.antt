-- Every contract of this crate is an equation of the result, so two outcomes that it allows are equal by `equation_only`
-- of base.
pub mod Exits
pub mod Cells
