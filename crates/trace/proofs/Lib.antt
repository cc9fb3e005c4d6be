-- Laws that belong to no one function.
pub mod StepLaws
pub mod Telling
pub mod Ending
pub mod Walking
pub mod Tracing
pub mod Only
