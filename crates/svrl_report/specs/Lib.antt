pub mod Plain
pub mod Svrl
pub mod Calls
