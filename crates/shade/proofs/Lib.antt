-- Laws that belong to no one function.
pub mod Texts
pub mod Visiting
pub mod Only
pub mod Examples
