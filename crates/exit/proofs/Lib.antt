-- What the layers above cite, and the laws that belong to no one function.
pub mod Only
pub mod SlideLaws
pub mod TrailLaws
pub mod Sliding
pub mod Lands
pub mod Stations
pub mod Rounds
pub mod Watching
pub mod SlideEnds
pub mod Editions
pub mod Opening
pub mod LeavingLaws
pub mod KeepingLaws
pub mod Page
pub mod Examples
pub mod LongSlides
