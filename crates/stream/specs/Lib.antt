-- Reading and writing whole, and what is printed of what was read.
pub mod Stream
pub mod Responds
pub mod Calls
