pub mod Parts
pub mod Guesses
pub mod Names
pub mod Values
pub mod Told
pub mod Members
pub mod Data
pub mod FaultLines
