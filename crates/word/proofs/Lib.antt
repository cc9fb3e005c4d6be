-- Laws that several proofs of this crate and of those above it cite, and examples.
pub mod Signed
pub mod Wrapping
pub mod FloorLaws
pub mod Only
pub mod Examples
