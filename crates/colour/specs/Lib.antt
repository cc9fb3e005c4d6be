-- What the contracts of `colour` cite.
pub mod Palette
pub mod Setting
pub mod Stretch
pub mod Classify
pub mod Instruction
pub mod Decode
pub mod Lookup
pub mod Label
