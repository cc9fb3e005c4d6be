-- Laws that belong to no one function, and that the layers above cite.
pub mod ValidLaws
pub mod Clearing
pub mod StepLaws
pub mod RunLaws
pub mod Settled
pub mod Answering
pub mod Histories
pub mod Entering
pub mod Observing
pub mod Resuming
pub mod Only
pub mod Examples
