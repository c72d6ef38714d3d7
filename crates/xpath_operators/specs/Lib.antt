pub mod Calculations
pub mod Nodes
pub mod Orders
pub mod Ranges
pub mod Spaces
pub mod Ranks
pub mod Rows
pub mod Texts
