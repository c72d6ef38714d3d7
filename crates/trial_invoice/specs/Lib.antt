pub mod Amounts
pub mod Generated
pub mod Written
