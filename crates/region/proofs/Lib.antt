-- Laws of the regions and of each step of the numbering; `Only`: the two public contracts determine their outcome.
pub mod Only
pub mod GridLaws
pub mod Cells
pub mod Ways
pub mod Paths
pub mod TallyLaws
pub mod MapLaws
pub mod RowLaws
pub mod Spreading
pub mod Filling
pub mod Numbering
pub mod Tabling
pub mod Examples
