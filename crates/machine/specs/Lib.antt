-- The machine: its outputs, the counts of skipped number lines, what a run is given, what an instruction works on and what
-- each of the seventeen does, which steps skip a number line, where a run starts and ends, and how the code holds it.
pub mod Output
pub mod Counts
pub mod Machine
pub mod Skipped
pub mod Place
pub mod Held
