pub mod Outline
pub mod Queries
pub mod Checks
