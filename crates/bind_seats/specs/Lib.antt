pub mod Nodes
pub mod Marks
pub mod Rowed
pub mod Currency
pub mod Placeholders
pub mod Occurrences
