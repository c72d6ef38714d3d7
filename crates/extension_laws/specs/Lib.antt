pub mod Ways
pub mod Joins
pub mod Open
pub mod Texts
pub mod Faulty
