-- A run that is counted: which nodes it never enters, what a call answers, and how the code counts.
pub mod Visits
pub mod Outcome
pub mod Counted
