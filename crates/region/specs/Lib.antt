-- The grid of codels, its regions, their numbers and their rows.
pub mod Grid
pub mod Region
pub mod Tally
pub mod Rows
pub mod Room
pub mod Steps
