pub mod Json
pub mod Layout
pub mod Escapes
pub mod Calls
pub mod Making
pub mod Made
