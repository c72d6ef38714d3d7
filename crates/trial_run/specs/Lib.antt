pub mod Comparing
pub mod Memory
pub mod Trials
