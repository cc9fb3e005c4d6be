-- Laws of the codels of a picture, and that a reading is determined.
pub mod Codels
pub mod Sizes
pub mod Only
pub mod Reading
