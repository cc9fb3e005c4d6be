-- The rules' examples.
pub mod Table
