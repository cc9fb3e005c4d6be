-- A run told in words: a move's line, and the lines of its end.
pub mod Words
pub mod Outputs
pub mod Line
pub mod Ending
pub mod Bounds
