pub mod Roots
pub mod Ascii
pub mod Extensions
pub mod Reading
