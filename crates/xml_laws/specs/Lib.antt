pub mod Told
pub mod Writable
