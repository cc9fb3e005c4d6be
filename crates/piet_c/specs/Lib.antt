-- What a call from C promises.
pub mod Exported
pub mod Calls
