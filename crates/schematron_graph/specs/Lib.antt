pub mod Rules
pub mod Counts
pub mod Ranked
pub mod Built
pub mod Back
pub mod Firsts
pub mod Once
