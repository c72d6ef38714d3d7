pub mod Bytes
pub mod States
pub mod Strings
pub mod Numbers
pub mod Values
pub mod Depth
mod Spelling
mod Unique
mod Rows
