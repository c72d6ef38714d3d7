pub mod Escapes
pub mod Canonical
pub mod Calls
pub mod Sizes
pub mod Writers
