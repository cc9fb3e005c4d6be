-- A run as a trace: what is printed, and how the code tells the moves.
pub mod Trace
pub mod Told
