-- The slide, the watch of a slide of edition 2, one attempt, the codel to leave by, the table of these, and what a region's attempt comes to.
pub mod Trail
pub mod Slide
pub mod Watched
pub mod Attempt
pub mod Leaving
pub mod LeaveTable
pub mod Keeping
pub mod Opens
