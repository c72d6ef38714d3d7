pub mod Readable
pub mod Reading
pub mod Roots
pub mod Texts
