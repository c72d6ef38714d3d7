pub mod ReaderLemmas
pub mod IdleLemmas
pub mod ReadingLemmas
pub mod TextLemmas
mod Rows
