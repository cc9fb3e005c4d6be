-- The picture, its codels, and reading a position.
pub mod Source
pub mod Picture
pub mod Codels
