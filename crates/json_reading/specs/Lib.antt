pub mod Bytes
pub mod Numbers
pub mod Words
pub mod Strings
pub mod Turns
pub mod Reading
pub mod Standing
pub mod Texts
