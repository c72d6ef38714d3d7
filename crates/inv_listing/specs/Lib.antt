pub mod Listing
pub mod Composing
