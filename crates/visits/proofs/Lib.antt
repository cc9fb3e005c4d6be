-- Laws that belong to no one function, and that the layers above cite.
pub mod Starting
pub mod ListingLaws
pub mod Answering
pub mod Only
pub mod Examples
