pub mod Apart
pub mod Covered
pub mod Faultless
pub mod Plain
pub mod Known
pub mod Twins
pub mod Written
