-- Laws that belong to no one function, and that the layers above cite.
pub mod Cells
pub mod Mirror
pub mod Turning
pub mod Exchanging
pub mod Rolling
pub mod Unique
pub mod Only
pub mod Cost
