pub mod Arithmetic
pub mod CivilDay
pub mod Digits
pub mod Number
pub mod Whole
pub mod WrittenDay
pub mod WrittenNumber
