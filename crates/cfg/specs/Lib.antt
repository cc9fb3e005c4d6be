-- The table of a picture: what building writes.
pub mod Nodes
pub mod Table
pub mod Search
pub mod Build
