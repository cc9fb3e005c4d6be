-- The layout of the lent table.
pub mod Layout
pub mod ExitNumber
