-- The program's response is one.
pub mod Only
