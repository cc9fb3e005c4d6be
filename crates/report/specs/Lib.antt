-- The run program's answer as text, and when there is room for it.
pub mod Text
pub mod Fits
pub mod Wrote
