-- What the contracts of lines, characters and numbers cite.
pub mod Range
pub mod Utf8
pub mod LongChar
pub mod White
pub mod Trim
pub mod Ends
pub mod Line
pub mod Number
pub mod Magnitude
pub mod Input
pub mod Means
pub mod Reading
