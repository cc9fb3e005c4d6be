pub mod Telling
pub mod Only
pub mod Joined
