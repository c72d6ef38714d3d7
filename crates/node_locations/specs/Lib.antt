pub mod Locations
pub mod Counting
pub mod Puts
