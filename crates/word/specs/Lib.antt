-- The machine's numbers.
pub mod Word
