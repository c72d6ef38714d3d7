pub mod Replacing
pub mod Messages
pub mod Walking
