pub mod Documents
pub mod Sources
pub mod Spots
pub mod Wordings
pub mod Holding
pub mod Cells
pub mod Walking
pub mod Roots
