pub mod Steps
pub mod Good
pub mod Completing
pub mod Stopping
