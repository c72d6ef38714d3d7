pub mod Keys
pub mod ListNames
pub mod Codes
pub mod CodeFiles
