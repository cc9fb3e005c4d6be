-- Laws that belong to no one function.
pub mod NodeLaws
pub mod TableLaws
pub mod Bare
pub mod Queueing
pub mod Trying
pub mod Searching
pub mod Stages
pub mod Refusing
pub mod Leads
pub mod Editions
pub mod Ahead
pub mod Black
pub mod FirstIllegal
pub mod Examples
