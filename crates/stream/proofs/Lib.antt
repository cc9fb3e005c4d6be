-- Laws of what a call comes to, and of the loop of calls.
pub mod Turning
pub mod Only
