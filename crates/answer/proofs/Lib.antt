-- Laws that belong to no one function.
pub mod Labelling
pub mod Slices
pub mod Ending
pub mod Answering
pub mod Cutting
pub mod Only
pub mod UnknownPixels
