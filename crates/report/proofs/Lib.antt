-- Laws that belong to no one function.
pub mod Writing
pub mod Partly
pub mod TextLaws
pub mod Examples
