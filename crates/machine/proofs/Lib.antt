-- Laws that belong to no one function, and that the layers above cite.
pub mod Emitting
pub mod Executing
pub mod Fitting
pub mod Skipping
pub mod Judging
pub mod Facing
pub mod Unique
pub mod Only
pub mod Examples
