-- How often each codel's block was entered, as a text, and what the code holds of it.
pub mod Shade
pub mod Counted
