pub mod Escapes
pub mod Places
pub mod Values
pub mod Parts
pub mod Seen
