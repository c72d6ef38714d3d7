pub mod Numbers
pub mod Longest
pub mod Words
pub mod Tokens
pub mod Scanning
