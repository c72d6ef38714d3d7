pub mod Arising
pub mod KindsHold
pub mod Replacing
