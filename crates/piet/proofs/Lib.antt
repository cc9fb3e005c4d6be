-- Demand 3, proved; what the call from pixels to a run's result keeps of it; its default setting; and the definitions against
-- the page's rules.
pub mod Bridge
pub mod MoveLaws
pub mod Following
pub mod BuiltTables
pub mod FollowsOnly
pub mod Seeing
pub mod Refusing
pub mod Drawing
pub mod Only
pub mod Default
pub mod Page
pub mod PageCommands
pub mod PageRoll
pub mod PageEdition
