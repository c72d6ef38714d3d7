pub mod Printed
pub mod Joins
pub mod FileLemmas
pub mod Ends
pub mod LibraryLemmas
